-- What is sent comes back: the payload of a container that a source sent, handed to the payload call. Assumes nothing.
use mathlib.Core.Path.{◌≡◌, refl, sym, ap, ◌∙◌}
use mathlib.Core.Bool.{true, false}
use mathlib.Core.List.{List}
use Prim.Native.Nat.{ℕ}
use lib.ListN.{length, replicate}
use Rattle.std.specs.Prelude.{Ok}
use Rattle.shape.specs.Shape.{Shape, Fit}
use Rattle.container.specs.Container.{payload_size}
use Rattle.container.specs.Payload.{payload_handed, payload_call}
use Rattle.container.proofs.Places.{length_container, payload_container}
use Rattle.container_source.specs.Overhead.{overhead_of}
use Rattle.container_source.specs.Source.{container_sent, SentOutcome, container_source}
use Rattle.container_source.specs.declared.State.{State}
use Rattle.container_source.specs.declared.Given.{Given}
use Rattle.container_source_theorems.proofs.Refused.{some_columns, source_done, source_sendable, handable_payload, payload_done}

module _ (s : Shape) (state : State) (g : Given) (trace payload before : List ℕ) (f : Fit s) (done : (container_source s state g trace payload before).sent.answer ≡ Ok tt) where
  -- the container sent is as long as a container is
  pub length_sent : length (container_source s state g trace payload before).container ≡ s.size
  unfolding container_sent overhead_of
  length_sent =
      ap (λ (o : SentOutcome). length o.container) (source_done s state g trace payload before done)
      ∙ length_container s.columns (overhead_of state g trace) payload (some_columns s f) refl (source_sendable s state g trace payload before done).payload_is
      ∙ sym f.nine

  -- "writes 2340 bytes": those that were given to the source
  pub payload_back : (room : List ℕ) → length room ≡ payload_size s.columns → payload_call s (container_source s state g trace payload before).container false room ≡ record { answer = Ok tt; payload = payload }
  unfolding payload_handed container_sent overhead_of
  payload_back room full =
      let c = (container_source s state g trace payload before).container in
      payload_done s c false room (handable_payload s c false room (record { container_is = length_sent; payload_is = full }))
      ∙ ap (λ (p : List ℕ). record { answer = Ok tt; payload = p })
      (ap (λ (o : SentOutcome). payload_handed s o.container false) (source_done s state g trace payload before done)
      ∙ payload_container s.columns (overhead_of state g trace) payload (some_columns s f) refl (source_sendable s state g trace payload before done).payload_is)

-- "or 2340 of FF where AIS is asked for", whatever the container holds
pub payload_ais : (s : Shape) (container room : List ℕ) → length container ≡ s.size → length room ≡ payload_size s.columns → payload_call s container true room ≡ record { answer = Ok tt; payload = replicate (payload_size s.columns) 0xff }
unfolding payload_handed
payload_ais s container room h k =
    payload_done s container true room (handable_payload s container true room (record { container_is = h; payload_is = k }))
