-- What a refusal of the sink leaves: the answer is the first thing wrong with the call, and the state and every byte lent are as they were. Assumes nothing.
use mathlib.Core.Path.{◌≡◌, refl, sym, ap, ◌∙◌}
use mathlib.Core.Bool.{Bool, true, false, not, ◌||◌}
use mathlib.Core.List.{List, [], ◌∷◌, ◌++◌}
use Prim.Native.Nat.{ℕ}
use native.Mathlib.Omega.{arith}
use lib.Dec.{eqb}
use lib.ListN.{length}
use Rattle.settings.specs.Faults.{settings_faults, settings_answer}
use Rattle.settings.proofs.Refuses.{settings_not_8, check_answer}
use Rattle.refusals.specs.Refusals.{Fault, due, given, answer_of, answer_number, number_of}
use Rattle.refusals.specs.declared.Refusal.{Refusal}
use Rattle.refusals.specs.declared.Refusal.TheVariants as wrong
use Rattle.std.specs.Prelude.{Result, Ok, Err, ⊤}
use Rattle.refusals.proofs.Wrong.{outcome_by, outcome_answer}
use Rattle.refusals.proofs.Joined.{joined_refused}
use Rattle.shape.specs.Shape.{Shape, unit_length}
use Rattle.sink.specs.Sink.{ReceivedOutcome, sink_out_of_range, sink_faults, told, refusing, sink}
use Rattle.sink.specs.declared.State.{State}
use Rattle.sink_theorems.specs.Reach.{SinkCall, sink_called}

-- all that is wrong with a call
abbrev pub faults : Shape → State → SinkCall → List (Fault Refusal)
faults s state c = sink_faults s state c.settings (length c.unit) (length c.held) (length c.done)

-- a call is refused by the first thing wrong with it, and done where nothing is: it never refuses otherwise
pub answer_is : (s : Shape) (state : State) (c : SinkCall) → (sink_called s state c).received.answer ≡ answer_of (faults s state c)
unfolding sink told refusing
answer_is s state c = outcome_answer (λ (o : ReceivedOutcome). o.received.answer) (faults s state c) _ _ refl (λ _. refl)

-- ---- a call is not both done and refused

pub done_not_refused : (x : Refusal) → ◌≡◌ {A = Result ⊤ Refusal} (Ok tt) (Err x) → ⊥
done_not_refused x h = let z : ◌≡◌ {A = ℕ} 0 1 = cc in absurd (omega arith)

-- ---- what is kept

-- all that a call may change
pub record Kept (state : State) (c : SinkCall) (o : ReceivedOutcome) : Type 0 where
  pub state_is : o.received.state ≡ state
  pub held_is : o.held ≡ c.held
  pub done_is : o.done ≡ c.done

-- A REFUSED CALL GIVES BACK THE STATE IT WAS GIVEN, and writes nothing
pub refused_kept : (s : Shape) (state : State) (c : SinkCall) (x : Refusal) → (sink_called s state c).received.answer ≡ Err x → Kept state c (sink_called s state c)
unfolding sink told refusing
refused_kept s state c x =
    outcome_by (λ (o : ReceivedOutcome). o.received.answer ≡ Err x → Kept state c o) (faults s state c)
    (λ h. absurd (done_not_refused x h))
    (λ y _. record { state_is = refl; held_is = refl; done_is = refl })

-- ---- refusal 8

-- none of the refusals after it is 8
later_not_8 : (l : List (Fault Refusal)) (u b : Bool) → (answer_of l ≡ Err wrong.State → ⊥)
    → answer_of (l ++ (given 1 wrong.Unit u ++ given 3 wrong.Container b)) ≡ Err wrong.State → ⊥
unfolding due answer_of answer_number number_of
later_not_8 [] true b k h = let n : ◌≡◌ {A = ℕ} 1 8 = ap answer_number h in absurd (omega arith)
later_not_8 [] false true k h = let n : ◌≡◌ {A = ℕ} 3 8 = ap answer_number h in absurd (omega arith)
later_not_8 [] false false k h = let n : ◌≡◌ {A = ℕ} 0 8 = ap answer_number h in absurd (omega arith)
later_not_8 (f ∷ l) u b k h = k h

-- a state in range is not refused by 8
pub not_8 : (s : Shape) (state : State) (c : SinkCall) → sink_out_of_range s state ≡ false → (sink_called s state c).received.answer ≡ Err wrong.State → ⊥
unfolding sink_faults due
not_8 s state c h e =
    later_not_8 (settings_faults c.settings) (not (eqb (length c.unit) (unit_length s)))
    (not (eqb (length c.held) s.size) || not (eqb (length c.done) s.size))
    (settings_not_8 c.settings) (rw h at (sym (answer_is s state c) ∙ e))

-- ---- settings that a host has had checked before any call

-- EVERY CALL WITH SETTINGS THAT THE CHECK REFUSES IS REFUSED AS IT SAYS, with its number and its place, whatever the unit and the buffers; only a state out of range comes before
pub checked_refused : (s : Shape) (state : State) (c : SinkCall) → length c.settings.trace ≡ 15 → sink_out_of_range s state ≡ false
    → (x : Refusal) → settings_answer c.settings.label c.settings.trace ≡ Err x → (sink_called s state c).received.answer ≡ Err x
unfolding sink_faults due
checked_refused s state c fifteen inside x e = rw (answer_is s state c, inside) (joined_refused (settings_faults c.settings) _ x (sym (check_answer c.settings fifteen) ∙ e))
