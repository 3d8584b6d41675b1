-- What `reading` and the tests of a word have to show: the sum fits in sixteen bits, and is the definition's. Assumes nothing.
use mathlib.Core.Path.{◌≡◌, refl}
use mathlib.Core.List.{List}
use Prim.Native.Nat.{ℕ, ◌+◌, ◌*◌, ◌<◌, ◌^◌}
use native.Mathlib.Omega.{arith}
use borrow.Author.Tests.{eq-eqb, ne_eqb}
use denote.Enum.Declared.{tag_of}
use lib.Dec.{eqb}
use lib.ListN.{length, get_or}
use Rattle.word.specs.Word.{word_of, number_of, kind_of, ss_of, value_of, reading_of, of_kind}
use Rattle.word.specs.declared.Ndf.{Ndf}
use Rattle.word.specs.declared.Ndf.TheVariants.{Neither, Normal, Enabled}
use Rattle.word.specs.contracts.Ndf.{the_type}
use Rattle.word.proofs.Laws.{number_le, ss_lt, value_lt}

-- ---- the tests

-- the number of a kind in the code
pub number_is : (k : Ndf) → tag_of the_type k ≡ number_of k
unfolding number_of
number_is Neither = refl
number_is Normal = refl
number_is Enabled = refl

module _ (k w : ℕ) (kind : Ndf) (kind-is : kind ≡ kind_of w) where
  pub of_other_kind : (tag_of the_type kind ≡ k → ⊥) → eqb (tag_of the_type kind) k ≡ of_kind k w
  unfolding of_kind
  of_other_kind h = rw (← kind-is, ← number_is kind, ne_eqb (tag_of the_type kind) k h) refl

  pub of_that_kind : (ss : ℕ) → ss ≡ ss_of w → tag_of the_type kind ≡ k → eqb ss 2 ≡ of_kind k w
  unfolding of_kind
  of_that_kind ss ss-is e = rw (← kind-is, ← number_is kind, eq-eqb (tag_of the_type kind) k e, ss-is) refl

-- ---- the reading

pub reads_none : (s : List ℕ) → (length s ≡ 2 → ⊥) → 0 ≡ reading_of s
unfolding reading_of
reads_none s h = rw (ne_eqb (length s) 2 h) refl

module _ (w : ℕ) (kind : Ndf) (ss : ℕ) (kind-is : kind ≡ kind_of w) (ss-is : ss ≡ ss_of w) where
  pub ss_fits : 1024 * ss < 2 ^ 16
  ss_fits = omega (arith, ss_lt w)

  pub kind_ss_fits : 4096 * tag_of the_type kind + 1024 * ss < 2 ^ 16
  kind_ss_fits = omega (arith, number_is kind, number_le kind, ss_lt w)

  module _ (value : ℕ) (value-is : value ≡ value_of w) where
    pub reading_fits : 4096 * tag_of the_type kind + 1024 * ss + value < 2 ^ 16
    reading_fits = omega (arith, number_is kind, number_le kind, ss_lt w, value_lt w)

    pub reads_two : (s : List ℕ) → length s ≡ 2 → w ≡ word_of (get_or s 0 0) (get_or s 1 0) → 4096 * tag_of the_type kind + 1024 * ss + value ≡ reading_of s
    unfolding reading_of
    reads_two s h w_is = rw (eq-eqb (length s) 2 h, ← w_is, number_is kind, kind-is, ss-is, value-is) refl
