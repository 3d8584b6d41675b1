-- The table of NDF kinds has a rule, proved once over the whole table: a code is normal where at least three of its four bits are those of 0110,
-- enabled where at least three are those of 1001, and no code is both. Assumes nothing.
use mathlib.Core.Path.{◌≡◌, refl}
use mathlib.Core.Bool.{Bool, true, false, cond, ◌&&◌, not, false≢true}
use Prim.Native.Nat.{ℕ, ◌-◌, ◌/◌, ◌≤◌, ◌<◌}
use native.Mathlib.Omega.{arith}
use Prim.{tt}
use denote.Enum.Bare.{sameb, same_true}
use borrow.Author.Tests.{leb-true, leb-false}
use lib.Bits.{bit_xor}
use lib.Count.{ones, ones_in}
use lib.Dec.{leb}
use lib.ListN.{get_or}
use Rattle.laws.proofs.Tables.{every, every_at}
use Rattle.word.specs.declared.Ndf.{Ndf}
use Rattle.word.specs.declared.Ndf.TheVariants.{Neither, Normal, Enabled}
use Rattle.word.specs.contracts.Ndf.{the_type}
use Rattle.word.specs.Word.{kinds, kind_of}

-- how many of the four bits of a code are those of another
pub agreeing : ℕ → ℕ → ℕ
agreeing a b = 4 - ones (bit_xor a b)

-- the kind k of the code c is the one that three of its bits say
pub record Voted (c : ℕ) (k : Ndf) : Type 0 where
  pub normal_where : 3 ≤ agreeing c 6 → k ≡ Normal
  pub enabled_where : 3 ≤ agreeing c 9 → k ≡ Enabled
  pub neither_else : agreeing c 6 < 3 → agreeing c 9 < 3 → k ≡ Neither
  pub never_both : 3 ≤ agreeing c 6 → 3 ≤ agreeing c 9 → ⊥

-- ---- the two tests that are computed over the table

vote : Bool → Bool → Ndf
vote six nine = cond six Normal (cond nine Enabled Neither)

voted : every 16 (λ c. sameb the_type (get_or kinds c Neither) (vote (leb 3 (agreeing c 6)) (leb 3 (agreeing c 9)))) ≡ true
unfolding vote agreeing ones ones_in
voted = refl

apart : every 16 (λ c. not (leb 3 (agreeing c 6) && leb 3 (agreeing c 9))) ≡ true
unfolding agreeing ones ones_in
apart = refl

-- ---- the rule

-- what the two tests answered for a code decides its kind
from_votes : (c : ℕ) (k : Ndf) (six nine : Bool) → leb 3 (agreeing c 6) ≡ six → leb 3 (agreeing c 9) ≡ nine → k ≡ vote six nine → not (six && nine) ≡ true → Voted c k
unfolding vote
from_votes c k true true p q e a = absurd (false≢true a)
from_votes c k true false p q e a =
    let six = leb-true 3 (agreeing c 6) p in
    let nine = leb-false 3 (agreeing c 9) q in
    record { normal_where = λ _. e; enabled_where = λ h. absurd (omega arith); neither_else = λ h _. absurd (omega arith); never_both = λ _ h. omega arith }
from_votes c k false true p q e a =
    let six = leb-false 3 (agreeing c 6) p in
    let nine = leb-true 3 (agreeing c 9) q in
    record { normal_where = λ h. absurd (omega arith); enabled_where = λ _. e; neither_else = λ _ h. absurd (omega arith); never_both = λ h _. omega arith }
from_votes c k false false p q e a =
    let six = leb-false 3 (agreeing c 6) p in
    let nine = leb-false 3 (agreeing c 9) q in
    record { normal_where = λ h. absurd (omega arith); enabled_where = λ h. absurd (omega arith); neither_else = λ _ _. e; never_both = λ h _. omega arith }

pub kind_voted : (w : ℕ) → w < 65536 → Voted (w / 4096) (kind_of w)
unfolding kind_of
kind_voted w h =
    let c = w / 4096 in
    let low : c < 16 = omega arith in
    from_votes c (get_or kinds c Neither) (leb 3 (agreeing c 6)) (leb 3 (agreeing c 9)) refl refl
    (same_true the_type tt (get_or kinds c Neither) (vote (leb 3 (agreeing c 6)) (leb 3 (agreeing c 9)))
    (every_at 16 (λ c. sameb the_type (get_or kinds c Neither) (vote (leb 3 (agreeing c 6)) (leb 3 (agreeing c 9)))) voted c low))
    (every_at 16 (λ c. not (leb 3 (agreeing c 6) && leb 3 (agreeing c 9))) apart c low)
