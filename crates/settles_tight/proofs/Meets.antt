-- The signal of specs/Signal.antt meets the hypotheses of demand 3, where what is asked of it is spaced. Assumes nothing.
use mathlib.Core.Path.{◌≡◌, refl, sym, ap, ap₂, ◌∙◌}
use mathlib.Core.Bool.{Bool, true}
use mathlib.Core.List.{List}
use Prim.Native.Nat.{ℕ, zero, suc, ◌+◌, ◌%◌, ◌≤◌, ◌<◌}
use native.Mathlib.Omega.{arith}
use lib.Dec.{eqb}
use lib.ListN.{length, replicate}
use borrow.Author.Tests.{eqb-true}
use Rattle.laws.proofs.Tables.{every, every_at}
use Rattle.parity.specs.Parity.{parity_of}
use Rattle.trace_message.specs.Message as of-check
use Rattle.settings.proofs.Opened as settings
use Rattle.settles_monitor.proofs.Labels.{fits_own}
use Rattle.refusals.specs.Refusals as of-refusals
use Rattle.std.specs.Prelude.{Ok}
use Rattle.shape.specs.Shape as of-shape
use Rattle.shape.specs.Shape.{au4}
use Rattle.shape.specs.declared.Adjustment.{Adjustment}
use Rattle.container.specs.Container.{rows_of}
use Rattle.container.proofs.Places.{length_container}
use Rattle.container_source.specs.Overhead.{j1_of, g1_of, overhead_of}
use Rattle.container_source.specs.Source as container-source
use Rattle.container_source.specs.Source.{container_sent, container_source_after}
use Rattle.container_source.specs.declared.State.{State}
use Rattle.container_source_theorems.specs.Run.{container_source_called, state_at, container_at}
use Rattle.container_source_theorems.proofs.Refused.{sendable_source, source_done}
use Rattle.unit_source.specs.Source as unit-source
use Rattle.sink.specs.declared.State as sink
use Rattle.sink_theorems.specs.Reach as reach
use Rattle.settles.specs.Demand.{Reached, Supplied, Spaced, Good, source_after}
use Rattle.settles_tight.specs.Signal.{trace, given, container, call, calls_from, making, asked, run}

-- ---- the containers

container_full : (place : ℕ) → length (container place) ≡ 2349
unfolding container_sent overhead_of
container_full place = length_container 261 (overhead_of (record { place = place; parity = 0 }) (given place) trace) (replicate 2340 0) (omega arith) refl refl

-- the parity of each of the 16
even : ℕ → Bool
unfolding of-check.coefficients of-check.polynomial of-check.minus of-check.remainder of-check.number of-check.check7 of-check.start_byte of-check.message parity_of rows_of j1_of g1_of overhead_of container_sent trace given
even place = eqb (parity_of (container place)) 0

evens : every 16 even ≡ true
unfolding even
evens = refl

parity_none : (place : ℕ) → place < 16 → parity_of (container place) ≡ 0
unfolding even
parity_none place l = eqb-true (parity_of (container place)) 0 (every_at 16 even evens place l)

-- so a source that began at a place with parity 00 goes on so
module _ (p : ℕ) (low : p ≤ 15) where
  abbrev first : State
  first = record { place = p; parity = 0 }

  abbrev here : ℕ → State
  here k = record { place = (p + k) % 16; parity = 0 }

  fine : (k : ℕ) → (container-source.container_source au4 (here k) (given ((p + k) % 16)) trace (replicate 2340 0) (replicate 2349 0)).sent.answer ≡ Ok tt
  unfolding given trace settings.opened
  fine k =
      sendable_source au4 (here k) (given ((p + k) % 16)) trace (replicate 2340 0) (replicate 2349 0)
      (record { place_is = omega arith; path_is = refl; payload_is = refl; container_is = refl; violations_is = omega arith })

  state_is : (k : ℕ) → state_at au4 first (calls_from p) k ≡ here k
  unfolding state_at call container_source_after
  state_is zero = let e : p ≡ (p + 0) % 16 = omega arith in ap (λ (i : ℕ). record { place = i; parity = 0 }) e
  state_is (suc k) =
      let i = (p + k) % 16 in
      let e : (i + 1) % 16 ≡ (p + suc k) % 16 = omega arith in
      ap (λ (x : State). (container_source_called au4 x (call i)).sent.state) (state_is k)
      ∙ (ap (λ (o : container-source.SentOutcome). o.sent.state) (source_done au4 (here k) (given i) trace (replicate 2340 0) (replicate 2349 0) (fine k))
      ∙ ap₂ (λ (a b : ℕ). record { place = a; parity = b }) e (parity_none i (omega arith)))

  container_is : (k : ℕ) → container ((p + k) % 16) ≡ container_at au4 first (calls_from p) k
  unfolding call
  container_is k =
      let i = (p + k) % 16 in
      sym
      (ap (λ (x : State). (container_source_called au4 x (call i)).container) (state_is k)
      ∙ ap (λ (o : container-source.SentOutcome). o.container) (source_done au4 (here k) (given i) trace (replicate 2340 0) (replicate 2349 0) (fine k)))

-- ---- the hypotheses

-- the container source stands one further than the container that is under way
module _ (place : ℕ) (low : place ≤ 14) (ask : ℕ → Adjustment) where
  pub supplied : (state : sink.State) → Supplied au4 (making (place + 1)) (run place ask state)
  supplied state k = let e : (place + suc k) % 16 ≡ (place + 1 + k) % 16 = omega arith in ap container e ∙ container_is (place + 1) (omega arith) k

  pub good : (noneBefore : ℕ) (state : sink.State) → Spaced noneBefore ask → Good noneBefore au4 (making (place + 1)) (run place ask state)
  unfolding call given trace settings.opened
  good noneBefore state spaced =
      record {
        fine = record { settings_fine = refl; trace_is = refl; unit_is = refl; held_is = refl; done_is = refl };
        under_way = container_full ((place + 0) % 16);
        label = 0x12;
        label_fits = fits_own 0x12;
        given = λ k. record { label_is = refl; trace_is = refl; no_remote = refl; violations_low = omega arith; payload_is = refl; container_is = refl };
        spaced = spaced;
      }

  pub reached : (calls : List reach.SinkCall) → Reached au4 (making (place + 1)) (run place ask (reach.reached au4 calls))
  unfolding source_after of-refusals.due of-refusals.outcome of-shape.down_of of-shape.offset_after unit-source.adjusts unit-source.source_out_of_range unit-source.make_faults unit-source.source_wait_after unit-source.unit_source_after unit-source.unit_source
  reached calls =
      let e : place + 1 ≡ (0 + (place + 1)) % 16 = omega arith in
      record {
        received = calls;
        state_is = refl;
        asked = asked;
        source_is = refl;
        made = calls_from 0;
        many = place + 1;
        first_is = ap (λ (i : ℕ). record { place = i; parity = 0 }) e ∙ sym (state_is 0 (omega arith) (place + 1));
      }
