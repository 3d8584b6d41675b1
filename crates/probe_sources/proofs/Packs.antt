-- What the probes of the sources have to show, of what the calls have shown. Assumes nothing.
use mathlib.Core.Path.{◌≡◌, ap, ◌∙◌}
use mathlib.Core.Bool.{Bool}
use mathlib.Core.List.{List}
use Prim.Native.Nat.{ℕ, ◌+◌, ◌*◌, ◌%◌}
use native.Mathlib.Omega.{arith}
use Rattle.refusals.specs.Refusals.{answer_number, answer_place}
use Rattle.std.specs.Prelude.{Result, Ok, Err, ⊤}
use Rattle.refusals.specs.declared.Refusal.{Refusal}
use Rattle.shape.specs.Shape.{Shape}
use Rattle.shape.specs.declared.Adjustment.{Adjustment}
use Rattle.container.specs.Payload.{payload_call, Hands}
use Rattle.container_source.specs.Source as containers
use Rattle.container_source.specs.declared.State as between-containers
use Rattle.container_source.specs.declared.Given.{Given}
use Rattle.container_source.specs.Source.{Sent}
use Rattle.unit_source.specs.Source as units
use Rattle.unit_source.specs.declared.State as between-units
use Rattle.unit_source.specs.Source.{Made}
use Rattle.probe_sources.specs.Probe.{packed_source, packed_sent, packed_unit, packed_made, adjustment_by, Probes, probed_sent, probed_made, probed_handed}

pub source_packed : (s t : between-containers.State) (n : ℕ) → s ≡ t → n ≡ packed_source s → n ≡ packed_source t
source_packed s t n e p = p ∙ ap packed_source e

pub unit_packed : (s t : between-units.State) (n : ℕ) → s ≡ t → n ≡ packed_unit s → n ≡ packed_unit t
unit_packed s t n e p = p ∙ ap packed_unit e

pub sent_packed : (a : Result ⊤ Refusal) (s : between-containers.State) (n p o place : ℕ) → place ≡ answer_place a → o ≡ place % 256 → n ≡ answer_number a → p ≡ packed_source s
    → o * 16777216 + n * 65536 + p ≡ packed_sent (record { answer = a; state = s })
unfolding packed_sent
sent_packed a s n p o place g h e f = rw (h, g, e, f)

module _ (a : Result ℕ Refusal) (s : between-units.State) (p : ℕ) (is : p ≡ packed_unit s) where
  pub made_packed : (n : ℕ) → a ≡ Ok n → n * 16777216 + p ≡ packed_made (units.made_by a s)
  unfolding packed_made units.made_by answer_number
  made_packed n e = rw (e, is) (omega arith)

  pub refused_packed : (x : Refusal) (n : ℕ) → a ≡ Err x → n ≡ answer_number (Err x) → n * 4294967296 + p ≡ packed_made (units.made_by a s)
  unfolding packed_made units.made_by
  refused_packed x n e h = rw (e, is, h) (omega arith)

pub container_probed : (s : Shape) (state : between-containers.State) (g : Given) (trace payload before after : List ℕ) (m : Sent) (n : ℕ)
    → containers.Sends s state g trace payload before m after → n ≡ packed_sent m
    → Probes n after (probed_sent (containers.container_source s state g trace payload before))
container_probed s state g trace payload before after m n e p = rw p (ap probed_sent e.outcome_is)

pub unit_probed : (s : Shape) (state : between-units.State) (asked : ℕ) (a : Adjustment) (current next before after : List ℕ) (m : Made) (n : ℕ)
    → a ≡ adjustment_by asked → units.Makes s state a current next before m after → n ≡ packed_made m
    → Probes n after (probed_made (units.unit_source s state (adjustment_by asked) current next before))
unit_probed s state asked a current next before after m n h e p = rw (← h, p) (ap probed_made e.outcome_is)

pub payload_probed : (s : Shape) (container : List ℕ) (ais : Bool) (before after : List ℕ) (a : Result ⊤ Refusal) (n : ℕ)
    → Hands s container ais before a after → n ≡ answer_number a
    → Probes n after (probed_handed (payload_call s container ais before))
payload_probed s container ais before after a n e p = rw p (ap probed_handed e.outcome_is)
