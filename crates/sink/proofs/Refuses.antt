-- Laws of what the sink refuses: its answer is the first thing wrong with the call, and a call that is done had nothing wrong with it. Assumes nothing.
use mathlib.Core.Path.{◌≡◌, refl, sym, ◌∙◌}
use mathlib.Core.Bool.{Bool, true, false, not, ◌||◌}
use mathlib.Core.List.{List, ◌++◌}
use Prim.Native.Nat.{ℕ, ◌≤◌}
use lib.Dec.{eqb}
use borrow.Author.Tests.{eq-eqb, ne_eqb, eqb-true, not-false}
use Rattle.laws.proofs.Tests.{or_false}
use Rattle.settings.specs.Faults.{settings_faults}
use Rattle.settings.specs.declared.Settings.{Settings}
use Rattle.settings.proofs.Refuses.{settings_numbered}
use Rattle.refusals.specs.Refusals.{Fault, given, due, number_of, says, answer_of}
use Rattle.refusals.specs.declared.Refusal.{Refusal}
use Rattle.refusals.specs.declared.Refusal.TheVariants as wrong
use Rattle.std.specs.Prelude.{Result, Ok, Err, ⊤}
use Rattle.refusals.proofs.Wrong.{due_none, due_false, none_wrong, Numbered, numbered_row, numbered_both, numbered_last}
use Rattle.refusals.proofs.Joined.{joined_refused, joined_done, joined_none}
use Rattle.shape.specs.Shape.{Shape, unit_length, held_count}
use Rattle.pointer_state.specs.State.{offset_of}
use Rattle.pointer.specs.Machine as pointer
use Rattle.pointer.proofs.Ranges.{offset_low}
use Rattle.monitor.specs.Monitoring as monitor
use Rattle.sink.specs.Sink.{held_in, sink_out_of_range, sink_faults}
use Rattle.sink.specs.Inner.{Fed}
use Rattle.sink.specs.declared.State.{State}

-- ---- ranges

-- a state whose numbers are in range
pub record Ranged (s : Shape) (state : State) : Type 0 where
  pub pointer_in : pointer.pointer_in_range s.top state.pointer ≡ true
  pub monitor_in_lem : monitor.monitor_in_range state.monitor ≡ true
  pub held_is : state.held ≡ held_in s state.pointer

pub ranged : (s : Shape) (state : State) → sink_out_of_range s state ≡ false → Ranged s state
unfolding sink_out_of_range
ranged s state h =
    let p = pointer.pointer_in_range s.top state.pointer in
    let m = monitor.monitor_in_range state.monitor in
    let held = eqb state.held (held_in s state.pointer) in
    let one = or_false (not p || not m) (not held) h in
    let two = or_false (not p) (not m) one.0 in
    record {
      pointer_in = not-false p two.0;
      monitor_in_lem = not-false m two.1;
      held_is = eqb-true state.held (held_in s state.pointer) (not-false held one.1);
    }

pub in_range : (s : Shape) (state : State) → Ranged s state → sink_out_of_range s state ≡ false
unfolding sink_out_of_range
in_range s state r = simp (r.pointer_in, r.monitor_in_lem, eq-eqb state.held (held_in s state.pointer) r.held_is)

-- the three tests of the code
module _ (s : Shape) (state : State) (a : Bool) (a-is : a ≡ pointer.pointer_in_range s.top state.pointer) where
  pub out_pointer : not a ≡ true → true ≡ sink_out_of_range s state
  unfolding sink_out_of_range
  out_pointer h = rw (← a-is, h) refl

  module _ (h : not a ≡ false) (b : Bool) (b-is : b ≡ monitor.monitor_in_range state.monitor) where
    pub out_monitor : not b ≡ true → true ≡ sink_out_of_range s state
    unfolding sink_out_of_range
    out_monitor k = rw (← a-is, h, ← b-is, k) refl

    module _ (k : not b ≡ false) (offset : ℕ) (o : offset ≡ offset_of state.pointer.state) where
      pub low_offset : offset ≤ s.top
      low_offset = rw o (offset_low s.top state.pointer (sym a-is ∙ not-false a h))

      pub out_held : (count : ℕ) → count ≡ held_count s offset → not (eqb state.held count) ≡ sink_out_of_range s state
      unfolding sink_out_of_range
      out_held count c = rw (c, o, ← a-is, h, ← b-is, k) refl

-- ---- the answer, by the tests that led to it

module _ (s : Shape) (state : State) (e : Settings) (unit held done : ℕ) where
  abbrev faults : List (Fault Refusal)
  faults = sink_faults s state e unit held done

  -- what is asked after the settings
  abbrev lengths : List (Fault Refusal)
  lengths = given 1 wrong.Unit (not (eqb unit (unit_length s))) ++ given 3 wrong.Container (not (eqb held s.size) || not (eqb done s.size))

  module _ (o : Bool) (is-o : o ≡ sink_out_of_range s state) where
    pub wrong_state : o ≡ true → Err wrong.State ≡ answer_of faults
    unfolding sink_faults due answer_of
    wrong_state h = rw (← is-o, h) refl

    module _ (o-no : o ≡ false) where
      settings_next : answer_of faults ≡ answer_of (settings_faults e ++ lengths)
      unfolding sink_faults due
      settings_next = rw (← is-o, o-no) refl

      module _ (r : Result ⊤ Refusal) (is-r : r ≡ answer_of (settings_faults e)) where
        pub wrong_settings : (x : Refusal) → r ≡ Err x → Err x ≡ answer_of faults
        wrong_settings x h = sym (settings_next ∙ joined_refused (settings_faults e) lengths x (sym is-r ∙ h))

        module _ (r-no : r ≡ Ok tt) where
          lengths_next : answer_of faults ≡ answer_of lengths
          lengths_next = settings_next ∙ joined_done (settings_faults e) lengths (sym is-r ∙ r-no)

          pub wrong_unit : (whole : ℕ) → whole ≡ unit_length s → (unit ≡ whole → ⊥) → Err wrong.Unit ≡ answer_of faults
          unfolding due answer_of
          wrong_unit whole w h = sym (lengths_next ∙ rw (ne_eqb unit (unit_length s) (rw w at h)) refl)

          module _ (whole : ℕ) (whole_is : whole ≡ unit_length s) (unit_is : unit ≡ whole) where
            full : unit ≡ unit_length s
            full = unit_is ∙ whole_is

            pub wrong_buffer : (not (eqb held s.size) || not (eqb done s.size)) ≡ true → Err wrong.Container ≡ answer_of faults
            unfolding due answer_of
            wrong_buffer h = sym (lengths_next ∙ rw (eq-eqb unit (unit_length s) full, h) refl)

            pub nothing_wrong : (not (eqb held s.size) || not (eqb done s.size)) ≡ false → Ok tt ≡ answer_of faults
            unfolding due answer_of
            nothing_wrong h = sym (lengths_next ∙ rw (eq-eqb unit (unit_length s) full, h) refl)

  -- each row has its case's number
  pub numbered : Numbered says faults
  unfolding sink_faults says number_of
  numbered = search (numbered_row, numbered_both, numbered_last, settings_numbered)

  -- a call that is done had nothing wrong with it
  pub fed : answer_of faults ≡ Ok tt → Fed s state unit held done
  unfolding sink_faults
  fed d =
      let p1 = due_none (sink_out_of_range s state) _ _ (none_wrong faults d) in
      let p2 = joined_none (settings_faults e) lengths p1.1 in
      let p4 = due_none (not (eqb unit (unit_length s))) _ _ p2.1 in
      let p5 = or_false (not (eqb held s.size)) (not (eqb done s.size)) (due_false (not (eqb held s.size) || not (eqb done s.size)) _ p4.1) in
      record {
        fine = p1.0;
        unit_is = eqb-true unit (unit_length s) (not-false (eqb unit (unit_length s)) p4.0);
        held_is = eqb-true held s.size (not-false (eqb held s.size) p5.0);
        done_is = eqb-true done s.size (not-false (eqb done s.size) p5.1);
      }
