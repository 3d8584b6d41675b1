-- Which causes stand together at a unit's end: of every call of the sink, whatever its state. Assumes nothing.
use mathlib.Core.Path.{◌≡◌, refl}
use mathlib.Core.Bool.{true, false, false≢true}
use mathlib.Core.List.{◌∷◌}
use Rattle.refusals.proofs.Wrong.{outcome_by}
use Rattle.shape.specs.Shape.{Shape}
use Rattle.pointer_state.specs.declared.State as reading
use Rattle.pointer_state.specs.declared.State.TheVariants.{Normal, Alarm, Lost}
use Rattle.pointer_state.specs.State.{is_normal, is_alarm, is_lost}
use Rattle.pointer.specs.declared.AfterWord.{AfterWord}
use Rattle.monitor.specs.Monitoring.{blank_of}
use Rattle.monitor.specs.declared.Monitor.{Monitor}
use Rattle.receiving.specs.Receiving.{silence}
use Rattle.unit_end.specs.Actions.{defects_of, no_causes}
use Rattle.unit_end.specs.Together.{Cause, cAIS, cLOP, cSSF, cUNEQ, cTIM, cRDI, cPLM, stands, partners, among, related}
use Rattle.unit_end.proofs.Together.{together, cleared_related, normal_related}
use Rattle.sink.specs.Sink.{ReceivedOutcome, pointed, unit_outcome, told, refusing, sink}
use Rattle.sink.specs.declared.State.{State}
use Rattle.sink_theorems.specs.Reach.{SinkCall, sink_called}
use Rattle.sink_theorems.proofs.Refused.{faults}

-- a unit with SSF has no defect, and any other has neither alarm nor loss
state_related : (x : reading.State) (m : Monitor) → (is_normal x ≡ false → m ≡ blank_of 48) → related (is_alarm x) (is_lost x) (defects_of m) ≡ true
unfolding is_normal is_alarm is_lost
state_related (Normal v) m h = normal_related (defects_of m)
state_related Alarm m h = rw (h refl) (cleared_related true false 48 refl)
state_related Lost m h = rw (h refl) (cleared_related false true 48 refl)

silent : (s : Shape) (state : State) (a : AfterWord) (c : SinkCall) → is_normal a.pointer.state ≡ false
    → (unit_outcome s state a c.settings c.unit c.held c.done).after.monitor ≡ blank_of 48
unfolding unit_outcome silence
silent s state a c h = rw h refl

none_stands_lem : (a : Cause) → stands no_causes a ≡ true → ⊥
unfolding stands
none_stands_lem cAIS h = false≢true h
none_stands_lem cLOP h = false≢true h
none_stands_lem cSSF h = false≢true h
none_stands_lem cUNEQ h = false≢true h
none_stands_lem cTIM h = false≢true h
none_stands_lem cRDI h = false≢true h
none_stands_lem cPLM h = false≢true h

-- THE ONLY CAUSES THAT STAND TOGETHER are cSSF with cAIS, cSSF with cLOP, cRDI with cPLM
pub only_pairs : (s : Shape) (state : State) (c : SinkCall) (a b : Cause)
    → stands (sink_called s state c).received.causes a ≡ true → stands (sink_called s state c).received.causes b ≡ true → among b (a ∷ partners a) ≡ true
unfolding sink told refusing
only_pairs s state c a b =
    let after = pointed s state.pointer c.unit in
    let u = (unit_outcome s state after c.settings c.unit c.held c.done).after in
    let x = after.pointer.state in
    outcome_by (λ (o : ReceivedOutcome). stands o.received.causes a ≡ true → stands o.received.causes b ≡ true → among b (a ∷ partners a) ≡ true) (faults s state c)
    (together (is_alarm x) (is_lost x) (defects_of u.monitor) c.settings.flags (state_related x u.monitor (silent s state after c)) a b)
    (λ _ h _. absurd (none_stands_lem a h))
