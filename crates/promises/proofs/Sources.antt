-- The promises of the sources, and of all that they rest on, allow one outcome each: the answer, the new state and every byte that was lent, refused calls too.
-- Determined.antt says how this is read off the contracts. Assumes nothing.
use mathlib.Core.Path.{◌≡◌, refl, sym, ap, ◌∙◌}
use mathlib.Core.List.{List}
use Prim.Native.Nat.{ℕ}
use Rattle.std.specs.Prelude.{Result, Ok, Err, ⊤}
use Rattle.refusals.specs.declared.Refusal.{Refusal}
use Rattle.shape.specs.declared.Shape.{Shape}
use Rattle.container.specs.Payload.{Handed}
use Rattle.container_source.specs.Source as container-left
use Rattle.container_source.specs.declared.State as between-containers
use Rattle.unit_source.specs.Source as unit_left
use Rattle.unit_source.specs.declared.State as between-units
use Rattle.probe_sources.specs.Probe.{Probed}
use Rattle.promises.proofs.Determined.{Determines}
use Rattle.refusals.proofs.number.Kinds as refusals-number
use Rattle.refusals.proofs.number.Reads as refusals-number-promise
use Rattle.refusals.proofs.place.Kinds as refusals-place
use Rattle.refusals.proofs.place.Reads as refusals-place-promise
use Rattle.refusals.proofs.trace_number.Kinds as refusals-trace-number
use Rattle.refusals.proofs.trace_number.Reads as refusals-trace-number-promise
use Rattle.shape.proofs.Shape.au4.Kinds as shape-au4
use Rattle.shape.proofs.Shape.au4.Reads as shape-au4-promise
use Rattle.shape.proofs.Shape.unit_length.Kinds as shape-unit-length
use Rattle.shape.proofs.Shape.unit_length.Reads as shape-unit-length-promise
use Rattle.shape.proofs.Shape.payload_length.Kinds as shape-payload-length
use Rattle.shape.proofs.Shape.payload_length.Reads as shape-payload-length-promise
use Rattle.shape.proofs.Shape.place.Kinds as shape-place
use Rattle.shape.proofs.Shape.place.Reads as shape-place-promise
use Rattle.shape.proofs.Shape.held_count.Kinds as shape-held-count
use Rattle.shape.proofs.Shape.held_count.Reads as shape-held-count-promise
use Rattle.shape.proofs.Shape.run_from.Kinds as shape-run-from
use Rattle.shape.proofs.Shape.run_from.Reads as shape-run-from-promise
use Rattle.shape.proofs.Adjustment.offset_after.Kinds as shape-offset-after
use Rattle.shape.proofs.Adjustment.offset_after.Reads as shape-offset-after-promise
use Rattle.shape.proofs.Adjustment.ended_by.Kinds as shape-ended-by
use Rattle.shape.proofs.Adjustment.ended_by.Reads as shape-ended-by-promise
use Rattle.container.proofs.rows.Kinds as container-rows
use Rattle.container.proofs.rows.Reads as container-rows-promise
use Rattle.container.proofs.payload_call.Kinds as payload-call
use Rattle.container.proofs.payload_call.Reads as payload-call-promise
use Rattle.container_source.proofs.fresh.Kinds as container-source-fresh
use Rattle.container_source.proofs.fresh.Reads as container-source-fresh-promise
use Rattle.container_source.proofs.container_source.Kinds as container-source
use Rattle.container_source.proofs.container_source.Reads as container-source-promise
use Rattle.unit.proofs.header.Kinds as unit-header
use Rattle.unit.proofs.header.Reads as unit-header-promise
use Rattle.unit.proofs.pour.Kinds as unit-pour
use Rattle.unit.proofs.pour.Reads as unit-pour-promise
use Rattle.unit_source.proofs.fresh.Kinds as unit-source-fresh
use Rattle.unit_source.proofs.fresh.Reads as unit-source-fresh-promise
use Rattle.unit_source.proofs.unit_source.Kinds as unit-source
use Rattle.unit_source.proofs.unit_source.Reads as unit-source-promise
use Rattle.probe_sources.proofs.probe_fresh_container.Kinds as probe-fresh-container
use Rattle.probe_sources.proofs.probe_fresh_container.Reads as probe-fresh-container-promise
use Rattle.probe_sources.proofs.probe_fresh_unit.Kinds as probe-fresh-unit
use Rattle.probe_sources.proofs.probe_fresh_unit.Reads as probe-fresh-unit-promise
use Rattle.probe_sources.proofs.probe_container.Kinds as probe-container
use Rattle.probe_sources.proofs.probe_container.Reads as probe-container-promise
use Rattle.probe_sources.proofs.probe_unit.Kinds as probe-unit
use Rattle.probe_sources.proofs.probe_unit.Reads as probe-unit-promise
use Rattle.probe_sources.proofs.probe_payload.Kinds as probe-payload
use Rattle.probe_sources.proofs.probe_payload.Reads as probe-payload-promise

-- ---- refusals

pub refusals_number_determined : Determines {O = ℕ} 0 refusals-number.ps refusals-number.r refusals-number-promise.Post (λ κs r e. r)
refusals_number_determined κs a x y s t p q = p ∙ sym q

pub refusals_place_determined : Determines {O = ℕ} 0 refusals-place.ps refusals-place.r refusals-place-promise.Post (λ κs r e. r)
refusals_place_determined κs a x y s t p q = p ∙ sym q

pub refusals_trace_number_determined : Determines {O = ℕ} 0 refusals-trace-number.ps refusals-trace-number.r refusals-trace-number-promise.Post (λ κs r e. r)
refusals_trace_number_determined κs a x y s t p q = p ∙ sym q

-- ---- shape

pub shape_au4_determined : Determines {O = Shape} 0 shape-au4.ps shape-au4.r shape-au4-promise.Post (λ κs r e. r)
shape_au4_determined κs a x y s t p q = p ∙ sym q

pub shape_unit_length_determined : Determines {O = ℕ} 0 shape-unit-length.ps shape-unit-length.r shape-unit-length-promise.Post (λ κs r e. r)
shape_unit_length_determined κs a x y s t p q = p ∙ sym q

pub shape_payload_length_determined : Determines {O = ℕ} 0 shape-payload-length.ps shape-payload-length.r shape-payload-length-promise.Post (λ κs r e. r)
shape_payload_length_determined κs a x y s t p q = p ∙ sym q

pub shape_place_determined : Determines {O = ℕ} 0 shape-place.ps shape-place.r shape-place-promise.Post (λ κs r e. r)
shape_place_determined κs a x y s t p q = p.0 ∙ sym q.0

pub shape_held_count_determined : Determines {O = ℕ} 0 shape-held-count.ps shape-held-count.r shape-held-count-promise.Post (λ κs r e. r)
shape_held_count_determined κs a x y s t p q = p ∙ sym q

pub shape_adjustment_offset_after_determined : Determines {O = ℕ} 0 shape-offset-after.ps shape-offset-after.r shape-offset-after-promise.Post (λ κs r e. r)
shape_adjustment_offset_after_determined κs a x y s t p q = p ∙ sym q

pub shape_run_from_determined : Determines {O = ℕ} 0 shape-run-from.ps shape-run-from.r shape-run-from-promise.Post (λ κs r e. r)
shape_run_from_determined κs a x y s t p q = p ∙ sym q

pub shape_adjustment_ended_by_determined : Determines {O = ℕ} 0 shape-ended-by.ps shape-ended-by.r shape-ended-by-promise.Post (λ κs r e. r)
shape_adjustment_ended_by_determined κs a x y s t p q = p ∙ sym q

-- ---- container

pub container_rows_determined : Determines {O = List ℕ} 2 container-rows.ps container-rows.r container-rows-promise.Post (λ κs r e. e.1.1.1.0.now)
container_rows_determined κs a x y s t p q = p ∙ sym q

pub payload_call_determined : Determines {O = Handed} 2 payload-call.ps payload-call.r payload-call-promise.Post (λ κs r e. record { answer = r; payload = e.1.1.0.now })
payload_call_determined κs a x y s t p q = p.outcome_is ∙ sym q.outcome_is

-- ---- container_source

pub container_source_fresh_determined : Determines {O = between-containers.State} 0 container-source-fresh.ps container-source-fresh.r container-source-fresh-promise.Post (λ κs r e. r)
container_source_fresh_determined κs a x y s t p q = p ∙ sym q

-- all that a call leaves: the answer, the state and the container's bytes
pub record ContainerLeft : Type 0 where
  pub answer : Result ⊤ Refusal
  pub state : between-containers.State
  pub container : List ℕ

-- the same, read back from what the promise speaks of
abbrev container_read_back : container-left.SentOutcome → ContainerLeft
container_read_back o = record { answer = o.sent.answer; state = o.sent.state; container = o.container }

pub container_source_determined : Determines {O = ContainerLeft} 4 container-source.ps container-source.r container-source-promise.Post (λ κs r e. record { answer = r; state = e.0.now; container = e.1.1.1.1.0.now })
container_source_determined κs a x y s t p q = ap container_read_back (p.outcome_is ∙ sym q.outcome_is)

-- ---- unit

pub unit_header_determined : Determines {O = List ℕ} 1 unit-header.ps unit-header.r unit-header-promise.Post (λ κs r e. e.1.1.1.0.now)
unit_header_determined κs a x y s t p q = p ∙ sym q

pub unit_pour_determined : Determines {O = List ℕ} 3 unit-pour.ps unit-pour.r unit-pour-promise.Post (λ κs r e. e.1.1.1.1.0.now)
unit_pour_determined κs a x y s t p q = p ∙ sym q

-- ---- unit_source

pub unit_source_fresh_determined : Determines {O = between-units.State} 0 unit-source-fresh.ps unit-source-fresh.r unit-source-fresh-promise.Post (λ κs r e. r)
unit_source_fresh_determined κs a x y s t p q = p ∙ sym q

-- the same of the unit source: the answer, how many ended or the refusal, the state and the unit's bytes
pub record UnitLeft : Type 0 where
  pub answer : Result ℕ Refusal
  pub state : between-units.State
  pub unit : List ℕ

unit_read_back : unit_left.MadeOutcome → UnitLeft
unit_read_back o = record { answer = answered o.made.answer; state = o.made.state; unit = o.unit }
  where
    answered : Result ⊤ Refusal → Result ℕ Refusal
    answered (Ok tt) = Ok o.made.ended
    answered (Err x) = Err x

unit_read_back_is : (a : Result ℕ Refusal) (state : between-units.State) (unit : List ℕ) → unit_read_back (record { made = unit_left.made_by a state; unit = unit }) ≡ record { answer = a; state = state; unit = unit }
unfolding unit_left.made_by unit_read_back
unit_read_back_is (Ok n) state unit = refl
unit_read_back_is (Err x) state unit = refl

pub unit_source_determined : Determines {O = UnitLeft} 4 unit-source.ps unit-source.r unit-source-promise.Post (λ κs r e. record { answer = r; state = e.0.now; unit = e.1.1.1.1.0.now })
unit_source_determined κs a x y s t p q = sym (unit_read_back_is x _ _) ∙ ap unit_read_back (p.outcome_is ∙ sym q.outcome_is) ∙ unit_read_back_is y _ _

-- ---- probe_sources

pub probe_fresh_container_determined : Determines {O = ℕ} 0 probe-fresh-container.ps probe-fresh-container.r probe-fresh-container-promise.Post (λ κs r e. r)
probe_fresh_container_determined κs a x y s t p q = p ∙ sym q

pub probe_fresh_unit_determined : Determines {O = ℕ} 0 probe-fresh-unit.ps probe-fresh-unit.r probe-fresh-unit-promise.Post (λ κs r e. r)
probe_fresh_unit_determined κs a x y s t p q = p ∙ sym q

pub probe_container_determined : Determines {O = Probed} 3 probe-container.ps probe-container.r probe-container-promise.Post (λ κs r e. record { number = r; bytes = e.1.0.now })
probe_container_determined κs a x y s t p q = p ∙ sym q

pub probe_unit_determined : Determines {O = Probed} 3 probe-unit.ps probe-unit.r probe-unit-promise.Post (λ κs r e. record { number = r; bytes = e.1.1.0.now })
probe_unit_determined κs a x y s t p q = p ∙ sym q

pub probe_payload_determined : Determines {O = Probed} 2 probe-payload.ps probe-payload.r probe-payload-promise.Post (λ κs r e. record { number = r; bytes = e.1.0.now })
probe_payload_determined κs a x y s t p q = p ∙ sym q
