-- When a call of the container source or of the payload call is refused, and what it leaves: a refused call leaves everything as it was, and a call is
-- done exactly where no row of the table applies. Assumes nothing.
use mathlib.Core.Path.{◌≡◌, refl, sym, ap, ◌∙◌}
use mathlib.Core.Bool.{Bool, false}
use mathlib.Core.List.{List}
use Prim.Native.Nat.{ℕ, ◌<◌}
use native.Mathlib.Omega.{arith}
use lib.Dec.{ltb}
use lib.ListN.{length}
use Rattle.refusals.specs.Refusals.{Fault, due, answer_of}
use Rattle.refusals.specs.declared.Refusal.{Refusal}
use Rattle.std.specs.Prelude.{Result, Ok, Err, ⊤}
use Rattle.refusals.proofs.Wrong.{none_done, outcome_answer, outcome_done, outcome_refused}
use Rattle.refusals.proofs.Joined.{joined_refused}
use Rattle.settings.specs.Faults.{path_faults, settings_answer}
use Rattle.settings.proofs.Refuses.{check_path}
use Rattle.shape.specs.Shape.{Shape, Fit}
use Rattle.container.specs.Payload.{payload_faults, payload_handed, Handed, payload_call}
use Rattle.container.proofs.PayloadLaws as payload-laws
use Rattle.container.proofs.PayloadLaws.{Handable, handable}
use Rattle.container_source.specs.Source.{send_faults, container_sent, container_source_after, SentOutcome, container_source}
use Rattle.container_source.specs.declared.State.{State}
use Rattle.container_source.specs.declared.Given.{Given}
use Rattle.container_source.proofs.SourceLaws as source-laws
use Rattle.container_source.proofs.SourceLaws.{Sendable, sendable}

-- a shape that fits has a column
pub some_columns : (s : Shape) → Fit s → 0 < s.columns
some_columns s f = omega (arith, f.nine, f.some, f.two)

-- ---- the container source

module _ (s : Shape) (state : State) (g : Given) (trace payload before : List ℕ) where
  abbrev faults : List (Fault Refusal)
  faults = send_faults s state.place g.label trace (length payload) (length before) g.violations

  -- the answer is the first of all that is wrong
  pub source_answer : (container_source s state g trace payload before).sent.answer ≡ answer_of faults
  unfolding container_source
  source_answer = outcome_answer (λ (o : SentOutcome). o.sent.answer) faults _ _ refl (λ x. refl)

  -- a label and a trace that a host's check refuses are refused as it says in every call; only a state out of range comes before
  pub source_checked : length trace ≡ 15 → ltb 15 state.place ≡ false → (x : Refusal) → settings_answer g.label trace ≡ Err x
      → (container_source s state g trace payload before).sent.answer ≡ Err x
  unfolding send_faults due
  source_checked fifteen inside x e = rw (source_answer, inside) (joined_refused (path_faults g.label trace) _ x (sym (check_path g.label trace fifteen) ∙ e))

  -- "A refusal returns its number and the old state. Nothing lent is written."
  pub source_refused : (x : Refusal) → (container_source s state g trace payload before).sent.answer ≡ Err x → container_source s state g trace payload before ≡ record { sent = record { answer = Err x; state = state }; container = before }
  unfolding container_source
  source_refused x e = outcome_refused faults _ _ x (sym source_answer ∙ e)

  -- whatever the refusal
  pub source_kept : ((container_source s state g trace payload before).sent.answer ≡ Ok tt → ⊥) → ((container_source s state g trace payload before).sent.state ≡ state) × ((container_source s state g trace payload before).container ≡ before)
  source_kept h = go (container_source s state g trace payload before).sent.answer refl
    where
      go : (a : Result ⊤ Refusal) → (container_source s state g trace payload before).sent.answer ≡ a → ((container_source s state g trace payload before).sent.state ≡ state) × ((container_source s state g trace payload before).container ≡ before)
      go (Ok tt) e = absurd (h e)
      go (Err x) e = (ap (λ (o : SentOutcome). o.sent.state) (source_refused x e), ap (λ (o : SentOutcome). o.container) (source_refused x e))

  -- any other call sends the container
  pub source_done : (container_source s state g trace payload before).sent.answer ≡ Ok tt → container_source s state g trace payload before ≡ record { sent = record { answer = Ok tt; state = container_source_after s state g trace payload }; container = container_sent s state g trace payload }
  unfolding container_source
  source_done e = outcome_done faults _ _ (sym source_answer ∙ e)

  -- it is done exactly where no row applies
  pub source_sendable : (container_source s state g trace payload before).sent.answer ≡ Ok tt → Sendable s state.place g.label trace (length payload) (length before) g.violations
  source_sendable e = sendable s state.place g.label trace (length payload) (length before) g.violations (Ok tt) (sym (sym source_answer ∙ e)) refl

  pub sendable_source : Sendable s state.place g.label trace (length payload) (length before) g.violations → (container_source s state g trace payload before).sent.answer ≡ Ok tt
  sendable_source a =
      source_answer ∙ sym (source-laws.answer_done s state.place g.label trace (length payload) (length before) g.violations a.place_is (answer_of (path_faults g.label trace)) refl (none_done (path_faults g.label trace) a.path_is) _ refl a.payload_is a.container_is a.violations_is)

-- ---- the payload call

module _ (s : Shape) (container : List ℕ) (ais : Bool) (before : List ℕ) where
  pub payload_answer : (payload_call s container ais before).answer ≡ answer_of (payload_faults s (length container) (length before))
  unfolding payload_call
  payload_answer =
      outcome_answer (λ (o : Handed). o.answer) (payload_faults s (length container) (length before)) _ _ refl (λ x. refl)

  pub payload_refused : (x : Refusal) → (payload_call s container ais before).answer ≡ Err x → payload_call s container ais before ≡ record { answer = Err x; payload = before }
  unfolding payload_call
  payload_refused x e = outcome_refused (payload_faults s (length container) (length before)) _ _ x (sym payload_answer ∙ e)

  pub payload_done : (payload_call s container ais before).answer ≡ Ok tt → payload_call s container ais before ≡ record { answer = Ok tt; payload = payload_handed s container ais }
  unfolding payload_call
  payload_done e = outcome_done (payload_faults s (length container) (length before)) _ _ (sym payload_answer ∙ e)

  pub payload_handable : (payload_call s container ais before).answer ≡ Ok tt → Handable s (length container) (length before)
  payload_handable e = handable s (length container) (length before) (Ok tt) (sym (sym payload_answer ∙ e)) refl

  pub handable_payload : Handable s (length container) (length before) → (payload_call s container ais before).answer ≡ Ok tt
  handable_payload h =
      payload_answer ∙ sym (payload-laws.answer_done s (length container) (length before) _ h.container_is refl h.payload_is)
