-- What the way a word is taken says of the offset that it names: new data and rule 3 name a pointer value, and an adjustment moves the offset of a normal state.
-- Assumes nothing.
use Prim.{Unit, tt}
use mathlib.Core.Path.{◌≡◌, refl}
use mathlib.Core.Bool.{true, ◌&&◌}
use Prim.Native.Nat.{ℕ, ◌≤◌}
use native.Mathlib.Omega.{arith}
use borrow.Author.Tests.{leb-true}
use lib.Dec.{eqb, ltb, leb}
use Rattle.laws.proofs.Tests.{by_test, and_left, and_right}
use Rattle.word.specs.Word.{normal, enabled, value_of, of_kind, good, bits_i, bits_d, inverted}
use Rattle.shape.specs.Shape.{offset_after}
use Rattle.shape.specs.declared.Adjustment.{Adjustment}
use Rattle.pointer_rules.specs.Rules.{run_after, elsewhere, adjustment, in_normal, in_alarm_or_lost, by_state, taken_as}
use Rattle.pointer_state.specs.declared.State.{State}
use Rattle.pointer_state.specs.declared.State.TheVariants.{Normal, Alarm, Lost}
use Rattle.pointer_rules.specs.declared.Taken.{Taken}
use Rattle.pointer_rules.specs.declared.Taken.TheVariants.{AlarmWord, NewData, Resync, Adjusted, Plain, Invalid}
use Rattle.pointer_rules.specs.declared.Run.{Run}

-- the state is normal, and an adjustment of its offset leads to v
pub record Moved (top : ℕ) (a : Adjustment) (state : State) (v : ℕ) : Type 0 where
  pub at : ℕ
  pub state_is : state ≡ Normal at
  pub leads : v ≡ offset_after top a at

-- what is known of the offset that a word taken in the state names
unfoldable pub Names : ℕ → State → Taken → Type 0
Names top state AlarmWord = Unit {0}
Names top state (NewData v) = v ≤ top
Names top state (Resync v) = v ≤ top
Names top state (Adjusted a v) = Moved top a state v
Names top state Plain = Unit {0}
Names top state Invalid = Unit {0}

-- ---- good, run_after

pub good_low : (k top w : ℕ) → good k top w ≡ true → value_of w ≤ top
unfolding good
good_low k top w h = leb-true (value_of w) top (and_right (of_kind k w) (leb (value_of w) top) h)

-- a word in a run of three is in range
pub run_low : (run : Run) (top w : ℕ) → leb 3 (run_after run top w).count ≡ true → value_of w ≤ top
unfolding run_after
run_low run top w =
    by_test (λ (r : Run). leb 3 r.count ≡ true → value_of w ≤ top) (good normal top w)
    (λ g _. good_low normal top w g)
    (λ _ e. absurd (omega (arith, leb-true 3 0 e)))

-- ---- taken_as

module _ (top : ℕ) where
  adjustment_names : (at i d : ℕ) → Names top (Normal at) (adjustment top at i d)
  unfolding adjustment Names
  adjustment_names at i d =
      by_test (Names top (Normal at)) (leb 3 i && leb d 2)
      (λ _. record { at = at; state_is = refl; leads = refl })
      (λ _. by_test (Names top (Normal at)) (leb 3 d && leb i 2) (λ _. record { at = at; state_is = refl; leads = refl }) (λ _. tt))

  outside_names : (state : State) (w : ℕ) → Names top state (in_alarm_or_lost top w)
  unfolding in_alarm_or_lost Names
  outside_names state w = by_test (Names top state) (good normal top w) (λ _. tt) (λ _. tt)

  by_state_names : (state : State) (wait w : ℕ) → Names top state (by_state state wait top w)
  unfolding by_state in_normal Names
  by_state_names (Normal at) wait w =
      by_test (Names top (Normal at)) (of_kind normal w)
      (λ _. by_test (Names top (Normal at)) (eqb (value_of w) at) (λ _. tt)
      (λ _. by_test (Names top (Normal at)) (ltb wait 3) (λ _. tt)
      (λ _. adjustment_names at (inverted bits_i w at) (inverted bits_d w at))))
      (λ _. tt)
  by_state_names Alarm wait w = outside_names Alarm w
  by_state_names Lost wait w = outside_names Lost w

  pub taken_names : (state : State) (run : Run) (wait w : ℕ) → Names top state (taken_as state (run_after run top w).count wait top w)
  unfolding taken_as Names
  taken_names state run wait w =
      let alike = (run_after run top w).count in
      by_test (Names top state) (eqb w 0xffff) (λ _. tt)
      (λ _. by_test (Names top state) (good enabled top w) (good_low enabled top w)
      (λ _. by_test (Names top state) (leb 3 alike && elsewhere state (value_of w))
      (λ e. run_low run top w (and_left (leb 3 alike) (elsewhere state (value_of w)) e))
      (λ _. by_state_names state wait w)))
