-- The states that calls of the two sources can reach have their numbers in range. Assumes nothing.
use mathlib.Core.List.{List, [], ◌∷◌}
use Prim.Native.Nat.{ℕ, zero, suc, ◌≤◌}
use native.Mathlib.Omega.{arith}
use lib.ListN.{length}
use Rattle.refusals.proofs.Wrong.{outcome_by}
use Rattle.shape.specs.Shape.{Shape}
use Rattle.shape.proofs.Offsets.{after_low}
use Rattle.container_source.specs.Source as container-source
use Rattle.container_source.specs.declared.State as container-source-state
use Rattle.container_source_theorems.specs.Run as sending
use Rattle.unit_source.specs.Source as unit-source
use Rattle.unit_source.specs.declared.State as unit-source-state
use Rattle.unit_source_theorems.proofs.Spaced.{wait_stops}
use Rattle.settles.specs.Demand.{Asked, source_after}

-- ---- the container source

pub made_low : (s : Shape) (first : container-source-state.State) (calls : ℕ → sending.ContainerSourceCall) (k : ℕ) → first.place ≤ 15 → (sending.state_at s first calls k).place ≤ 15
unfolding sending.state_at container-source.container_source container-source.container_source_after
made_low s first calls zero h = h
made_low s first calls (suc k) h =
    let state = sending.state_at s first calls k in
    let c = calls k in
    outcome_by (λ (o : container-source.SentOutcome). o.sent.state.place ≤ 15)
    (container-source.send_faults s state.place c.given.label c.trace (length c.payload) (length c.lent) c.given.violations)
    (omega arith)
    (λ _. made_low s first calls k h)

-- ---- the unit source

pub record InRange (s : Shape) (state : unit-source-state.State) : Type 0 where
  pub offset_low : state.offset ≤ s.top
  pub wait_low : state.wait ≤ 3

asked_low : (s : Shape) (state : unit-source-state.State) (c : Asked) → InRange s state
    → InRange s (unit-source.unit_source s state c.request c.current c.next c.unit).made.state
unfolding unit-source.unit_source unit-source.unit_source_after
asked_low s state c h =
    outcome_by (λ (o : unit-source.MadeOutcome). InRange s o.made.state)
    (unit-source.make_faults s state c.request (length c.current) (length c.next) (length c.unit))
    (record { offset_low = after_low s.top c.request state.offset h.offset_low; wait_low = wait_stops c.request state.wait })
    (λ _. h)

pub source_low : (s : Shape) (state : unit-source-state.State) (row : List Asked) → InRange s state → InRange s (source_after s state row)
unfolding source_after
source_low s state [] h = h
source_low s state (c ∷ row) h = source_low s (unit-source.unit_source s state c.request c.current c.next c.unit).made.state row (asked_low s state c h)
