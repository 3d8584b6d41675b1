-- What a trace is that passes: all its characters are 20 to 7E, and not all are 20; and what is said of any other. Assumes nothing.
use mathlib.Core.Path.{◌≡◌, refl, sym, ◌∙◌}
use mathlib.Core.Bool.{Bool, true, false, true≢false}
use mathlib.Core.List.{List, [], ◌∷◌, ◌++◌}
use Prim.Native.Nat.{ℕ, zero, suc, ◌+◌, ◌<◌, ◌≤◌}
use native.Mathlib.Omega.{arith}
use lib.ListN.{length, get_or}
use borrow.Author.Tests.{ltb-false, lt-ltb, le-ltb}
use Rattle.refusals.specs.Refusals.{Fault, due, no}
use Rattle.refusals.specs.declared.TraceFault.{TraceFault}
use Rattle.refusals.specs.declared.TraceFault.TheVariants.{Below, Above, Spaces}
use Rattle.refusals.proofs.Wrong.{due_none, due_false}
use Rattle.refusals.proofs.Joined.{joined_none}
use Rattle.settings.specs.Settings.{below, above, all_spaces, characters_from, trace_faults, judged}
use Rattle.settings.specs.Faults.{settings_faults}
use Rattle.settings.specs.declared.Settings.{Settings}
use Rattle.std.specs.Prelude.{Err}
use Rattle.settings.proofs.Laws.{spaces_are, are_spaces}
use Rattle.settings.proofs.Refuses.{fine_trace}

-- a character that may stand in a trace
pub record Character (b : ℕ) : Type 0 where
  pub least : 0x20 ≤ b
  pub most : b ≤ 0x7e

-- a trace that may be sent, expected or listed
pub record Good (trace : List ℕ) : Type 0 where
  pub characters : (i : ℕ) → i < length trace → Character (get_or trace i 0)
  pub not_spaces : ((i : ℕ) → i < length trace → get_or trace i 0 ≡ 0x20) → ⊥

-- ---- characters

-- what holds of no characters, and of a character before others of which it holds, holds of all of them
module _ (P : List ℕ → Type 0) (none : P []) (more : (b : ℕ) (bs : List ℕ) → Character b → P bs → P (b ∷ bs)) where
  from_place : (place : ℕ) (bs : List ℕ) → characters_from place bs ≡ [] → P bs
  unfolding characters_from below above
  from_place place [] e = none
  from_place place (b ∷ bs) e =
      let p = due_none (below b) _ _ e in
      let q = due_none (above b) _ _ p.1 in
      more b bs (record { least = ltb-false b 0x20 p.0; most = ltb-false 0x7e b q.0 }) (from_place (place + 1) bs q.1)

  pub by_characters : (trace : List ℕ) → trace_faults trace ≡ [] → P trace
  unfolding trace_faults
  by_characters trace e = from_place 1 trace (joined_none (characters_from 1 trace) _ e).0

-- and characters by their places have nothing wrong with them
none_from : (place : ℕ) (bs : List ℕ) → ((i : ℕ) → i < length bs → Character (get_or bs i 0)) → characters_from place bs ≡ []
unfolding characters_from below above due
none_from place [] h = refl
none_from place (b ∷ bs) h =
    let first : Character b = h 0 (omega arith) in
    rw (le-ltb b 0x20 first.least, le-ltb 0x7e b first.most) (none_from (place + 1) bs (λ i l. h (suc i) (omega arith)))

-- ---- A TRACE PASSES EXACTLY WHERE ALL ITS CHARACTERS ARE 20 TO 7E AND NOT ALL ARE 20

pub passing_good : (trace : List ℕ) → trace_faults trace ≡ [] → Good trace
unfolding trace_faults
passing_good trace e =
    record {
      characters = by_characters (λ (bs : List ℕ). (i : ℕ) → i < length bs → Character (get_or bs i 0)) (λ i l. absurd (omega arith)) more trace e;
      not_spaces = λ h. absurd (true≢false (sym (spaces_are trace h) ∙ spoken));
    }
  where
    more : (b : ℕ) (bs : List ℕ) → Character b → ((i : ℕ) → i < length bs → Character (get_or bs i 0)) → (i : ℕ) → i < length (b ∷ bs) → Character (get_or (b ∷ bs) i 0)
    more b bs c rest zero l = c
    more b bs c rest (suc i) l = rest i (omega arith)

    spoken : all_spaces trace ≡ false
    spoken = due_false (all_spaces trace) _ (joined_none (characters_from 1 trace) _ e).1

pub good_passes : (trace : List ℕ) → Good trace → trace_faults trace ≡ []
unfolding trace_faults due
good_passes trace g = rw (none_from 1 trace g.characters) (go (all_spaces trace) refl)
  where
    go : (t : Bool) → all_spaces trace ≡ t → due t (no 21 Spaces) ≡ []
    go false o = refl
    go true o = absurd (g.not_spaces (are_spaces trace o))

-- ---- AND OF ANY OTHER THE EARLIEST CHARACTER DECIDES

-- the character at place i + 1, with all before it as they may be
pub record Earliest (trace : List ℕ) (i : ℕ) : Type 0 where
  pub inside : i < length trace
  pub before : (k : ℕ) → k < i → Character (get_or trace k 0)

-- what is wrong from it on is wrong first
from_earliest : (i place at : ℕ) (bs : List ℕ) (rest : List (Fault TraceFault)) (t : TraceFault) → Earliest bs i → at ≡ place + i
    → ((behind : List ℕ) → judged (characters_from at (get_or bs i 0 ∷ behind) ++ rest) ≡ Err t) → judged (characters_from place bs ++ rest) ≡ Err t
unfolding characters_from below above due
from_earliest i place at [] rest t e q h = absurd (omega (arith, e.inside))
from_earliest zero place at (b ∷ bs) rest t e q h = let same : at ≡ place = omega arith in rw same at (h bs)
from_earliest (suc i) place at (b ∷ bs) rest t e q h =
    let first : Character b = e.before 0 (omega arith) in
    let later : Earliest bs i = record { inside = omega (arith, e.inside); before = λ k l. e.before (suc k) (omega arith) } in
    rw (le-ltb b 0x20 first.least, le-ltb 0x7e b first.most) (from_earliest i (place + 1) at bs rest t later (omega arith) h)

module _ (trace : List ℕ) (i : ℕ) (e : Earliest trace i) where
  -- 5 with its place, where it is below 20
  pub below_at : get_or trace i 0 < 0x20 → judged (trace_faults trace) ≡ Err (Below (i + 1))
  unfolding trace_faults characters_from below due judged
  below_at l = from_earliest i 1 (i + 1) trace _ (Below (i + 1)) e (omega arith) (λ behind. rw (lt-ltb (get_or trace i 0) 0x20 l) refl)

  -- 20 with its place, where it is above 7E
  pub above_at : 0x7e < get_or trace i 0 → judged (trace_faults trace) ≡ Err (Above (i + 1))
  unfolding trace_faults characters_from below above due judged
  above_at l = from_earliest i 1 (i + 1) trace _ (Above (i + 1)) e (omega arith) (λ behind. rw (le-ltb (get_or trace i 0) 0x20 (omega arith), lt-ltb 0x7e (get_or trace i 0) l) refl)

-- 21, where all are spaces
pub spaces_at : (trace : List ℕ) → ((i : ℕ) → i < length trace → get_or trace i 0 ≡ 0x20) → judged (trace_faults trace) ≡ Err Spaces
unfolding trace_faults due judged
spaces_at trace h =
    rw (none_from 1 trace (λ i l. record { least = omega (arith, h i l); most = omega (arith, h i l) }), spaces_are trace h) refl

-- ---- settings that no number refuses have such a trace: fifteen spaces are left out

pub fine_good : (e : Settings) → settings_faults e ≡ [] → Good e.trace
fine_good e h = passing_good e.trace (fine_trace e h)
