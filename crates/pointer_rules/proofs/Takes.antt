-- Each return of the code that takes a word is a case of the rules: the facts of the ways there, and what the calls on the way ensure, lead to it.
-- Assumes nothing.
use mathlib.Core.Path.{◌≡◌, refl, sym, ap, ◌∙◌}
use mathlib.Core.Logic.{◌⊎◌, inl, inr}
use mathlib.Core.Bool.{Bool, true, false, not, ◌&&◌, false≢true}
use Prim.Native.Nat.{ℕ, ◌≤◌, ◌<◌}
use lib.Dec.{eqb, leb}
use borrow.Author.Tests.{eq-eqb, ne_eqb, eqb-true, lt-ltb, le-ltb, le-leb, lt-leb}
use Rattle.counts.specs.Counts.{run_on}
use Rattle.word.specs.Word.{normal, enabled, value_of, of_kind, good, bits_i, bits_d, inverted}
use Rattle.shape.specs.Shape.{offset_after}
use Rattle.shape.specs.declared.Adjustment.{Adjustment}
use Rattle.shape.specs.declared.Adjustment.TheVariants as offset
use Rattle.pointer_rules.specs.Rules.{no_run, run_after, elsewhere, adjustment, in_normal, in_alarm_or_lost, by_state, taken_as, restarts, adjustment_of}
use Rattle.pointer_state.specs.contracts.StatePartialEq.TheImpl as state-eq
use Rattle.pointer_state.specs.declared.State.{State}
use Rattle.pointer_state.specs.declared.State.TheVariants.{Normal, Alarm, Lost}
use Rattle.pointer_rules.specs.declared.Taken.{Taken}
use Rattle.pointer_rules.specs.declared.Taken.TheVariants.{AlarmWord, NewData, Resync, Adjusted, Plain, Invalid}
use Rattle.pointer_rules.specs.declared.Run.{Run}

-- ---- the run

module _ (run : Run) (top w : ℕ) (in-run : Bool) (in-run-is : in-run ≡ good normal top w) where
  pub run_goes_on : (v n : ℕ) → in-run ≡ true → v ≡ value_of w → n ≡ run_on (eqb run.value v) run.count 3 → record { count = n; value = v } ≡ run_after run top w
  unfolding run_after
  run_goes_on v n h v-is n-is = rw (← in-run-is, h, ← v-is, n-is) refl

  pub run_ends : in-run ≡ false → no_run ≡ run_after run top w
  unfolding run_after
  run_ends h = rw (← in-run-is, h) refl

-- ---- rules 4 to 6

module _ (top at i d : ℕ) where
  pub adjusts_up : (v : ℕ) → (leb 3 i && leb d 2) ≡ true → v ≡ offset_after top offset.Increment at → Adjusted offset.Increment v ≡ adjustment top at i d
  unfolding adjustment
  adjusts_up v up v-is = rw (up, v-is) refl

  module _ (up : (leb 3 i && leb d 2) ≡ false) where
    pub adjusts_down : (v : ℕ) → (leb 3 d && leb i 2) ≡ true → v ≡ offset_after top offset.Decrement at → Adjusted offset.Decrement v ≡ adjustment top at i d
    unfolding adjustment
    adjusts_down v down v-is = rw (up, down, v-is) refl

    pub adjusts_neither : (leb 3 d && leb i 2) ≡ false → Invalid ≡ adjustment top at i d
    unfolding adjustment
    adjusts_neither down = rw (up, down) refl

module _ (at wait top w : ℕ) (in-kind : Bool) (in-kind-is : in-kind ≡ of_kind normal w) where
  pub normal_other_kind : in-kind ≡ false → Invalid ≡ in_normal at wait top w
  unfolding in_normal
  normal_other_kind h = rw (← in-kind-is, h) refl

  module _ (h : in-kind ≡ true) (v : ℕ) (v-is : v ≡ value_of w) where
    pub normal_plain : v ≡ at → Plain ≡ in_normal at wait top w
    unfolding in_normal
    normal_plain e = rw (← in-kind-is, h, ← v-is, eq-eqb v at e) refl

    module _ (other : v ≡ at → ⊥) where
      pub normal_too_soon : wait < 3 → Invalid ≡ in_normal at wait top w
      unfolding in_normal
      normal_too_soon soon = rw (← in-kind-is, h, ← v-is, ne_eqb v at other, lt-ltb wait 3 soon) refl

      pub normal_adjusts : (i d : ℕ) (r : Taken) → 3 ≤ wait → i ≡ inverted bits_i w at → d ≡ inverted bits_d w at → r ≡ adjustment top at i d → r ≡ in_normal at wait top w
      unfolding in_normal
      normal_adjusts i d r late i-is d-is r-is = rw (← in-kind-is, h, ← v-is, ne_eqb v at other, le-ltb wait 3 late, ← i-is, ← d-is) r-is

module _ (state : State) (wait top w : ℕ) where
  pub in_normal_lem : (at : ℕ) (r : Taken) → state ≡ Normal at → r ≡ in_normal at wait top w → r ≡ by_state state wait top w
  unfolding by_state
  in_normal_lem at r h r-is = rw h r-is

  pub outside_plain : (state ≡ Alarm) ⊎ (state ≡ Lost) → (in_range : Bool) → in_range ≡ good normal top w → in_range ≡ true → Plain ≡ by_state state wait top w
  unfolding by_state in_alarm_or_lost
  outside_plain (inl h) in_range is e = rw (h, ← is, e) refl
  outside_plain (inr h) in_range is e = rw (h, ← is, e) refl

  pub outside_invalid : (state ≡ Alarm) ⊎ (state ≡ Lost) → (in_range : Bool) → in_range ≡ good normal top w → in_range ≡ false → Invalid ≡ by_state state wait top w
  unfolding by_state in_alarm_or_lost
  outside_invalid (inl h) in_range is e = rw (h, ← is, e) refl
  outside_invalid (inr h) in_range is e = rw (h, ← is, e) refl

-- ---- rules 1 to 3

-- of rule 3: the code tests whether the state is other than normal at v
turned : (a b : ℕ) (t : Bool) → eqb a b ≡ t → t ≡ eqb b a
turned a b true h = sym (eq-eqb b a (sym (eqb-true a b h)))
turned a b false h = sym (ne_eqb b a (λ e. false≢true (sym h ∙ eq-eqb a b (sym e))))

eqb_turned : (a b : ℕ) → eqb a b ≡ eqb b a
eqb_turned a b = turned a b (eqb a b) refl

pub elsewhere_is : (state : State) (v : ℕ) (other : Bool) → other ≡ not (state-eq.ghosts.eq state (Normal v)) → other ≡ elsewhere state v
unfolding elsewhere
elsewhere_is (Normal at) v other e = e ∙ ap not (eqb_turned at v)
elsewhere_is Alarm v other e = e
elsewhere_is Lost v other e = e

module _ (state : State) (alike wait top w : ℕ) where
  pub takes_alarm : w ≡ 0xffff → AlarmWord ≡ taken_as state alike wait top w
  unfolding taken_as
  takes_alarm h = rw (eq-eqb w 0xffff h) refl

  module _ (other : w ≡ 0xffff → ⊥) (v : ℕ) (v-is : v ≡ value_of w) (new : Bool) (New-is : new ≡ good enabled top w) where
    pub takes_new_data : new ≡ true → NewData v ≡ taken_as state alike wait top w
    unfolding taken_as
    takes_new_data h = rw (ne_eqb w 0xffff other, ← New-is, h, v-is) refl

    module _ (old : new ≡ false) where
      pub takes_resync : (away : Bool) → 3 ≤ alike → away ≡ not (state-eq.ghosts.eq state (Normal v)) → away ≡ true → Resync v ≡ taken_as state alike wait top w
      unfolding taken_as
      takes_resync away long is h = rw (ne_eqb w 0xffff other, ← New-is, old, ← v-is, le-leb 3 alike long, ← elsewhere_is state v away is, h) refl

      module _ (r : Taken) (r-is : r ≡ by_state state wait top w) where
        pub takes_there : (away : Bool) → 3 ≤ alike → away ≡ not (state-eq.ghosts.eq state (Normal v)) → away ≡ false → r ≡ taken_as state alike wait top w
        unfolding taken_as
        takes_there away long is h = rw (ne_eqb w 0xffff other, ← New-is, old, ← v-is, le-leb 3 alike long, ← elsewhere_is state v away is, h) r-is

        pub takes_by_state : alike < 3 → r ≡ taken_as state alike wait top w
        unfolding taken_as
        takes_by_state short = rw (ne_eqb w 0xffff other, ← New-is, old, lt-leb 3 alike short) r-is

-- ---- what the rest of the sink asks of a word so taken

pub a_restart : (t : Taken) → ((v : ℕ) × t ≡ NewData v) ⊎ ((v : ℕ) × t ≡ Resync v) → true ≡ restarts t
unfolding restarts
a_restart t (inl h) = rw h.1 refl
a_restart t (inr h) = rw h.1 refl

pub no_restart : (t : Taken) → ((v : ℕ) → t ≡ NewData v → ⊥) → ((v : ℕ) → t ≡ Resync v → ⊥) → false ≡ restarts t
unfolding restarts
no_restart (NewData v) n r = absurd (n v refl)
no_restart (Resync v) n r = absurd (r v refl)
no_restart AlarmWord n r = refl
no_restart (Adjusted a v) n r = refl
no_restart Plain n r = refl
no_restart Invalid n r = refl

pub no_adjustment : (t : Taken) → ((a : Adjustment) (v : ℕ) → t ≡ Adjusted a v → ⊥) → offset.Nothing ≡ adjustment_of t
unfolding adjustment_of
no_adjustment (Adjusted a v) n = absurd (n a v refl)
no_adjustment AlarmWord n = refl
no_adjustment (NewData v) n = refl
no_adjustment (Resync v) n = refl
no_adjustment Plain n = refl
no_adjustment Invalid n = refl
