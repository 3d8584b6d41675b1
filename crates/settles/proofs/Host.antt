-- What a host gets from the code, by the promises alone, is the run of the definitions, and that run is one that a host can get: so the demand is the same of both. Assumes
-- nothing.
use mathlib.Core.Path.{◌≡◌, refl, sym, ap, subst, ◌∙◌}
use mathlib.Core.List.{List}
use Prim.Native.Nat.{ℕ, zero, suc, ◌+◌}
use Rattle.shape.specs.Shape.{Shape, au4}
use Rattle.container_source.specs.Source as container-source
use Rattle.container_source.specs.declared.State.{State}
use Rattle.container_source_theorems.specs.Run as sending
use Rattle.unit_source.specs.Source as unit-source
use Rattle.unit_source.specs.Source.{Made}
use Rattle.unit_source_theorems.specs.Sending as stream
use Rattle.sink.specs.Sink as sink
use Rattle.settles.specs.Demand.{Run, Path, Making, Log, Supplied, Settles, Demand, most, eight, sent, fed, path_after, path_at, made_at, received_at, log_of}
use Rattle.container_source.proofs.SourceLaws.{send_said}
use Rattle.unit_source.proofs.Answers.{make_said}
use Rattle.sink.proofs.Feeds.{feed_said}
use Rattle.settles.specs.Host.{Host, HostDemand, HostDemand3}
use Rattle.settles.proofs.Settled.{demand_3}

module _ (s : Shape) (m : Making) (r : Run) (g : Log) (h : Host s m r g) where
  -- ---- what the promises say

  sent_outcome : (k : ℕ) → record { sent = g.sent k; container = r.box (suc k) } ≡ sending.container_source_called s (g.maker k) (m.calls k)
  sent_outcome k = (h.sends k).outcome_is

  made_outcome : (n : ℕ) → record { made = g.made n; unit = (g.path (suc n)).source.unit } ≡ sent s r (g.path n) (r.ask n)
  made_outcome n = (h.makes n).outcome_is

  received_outcome : (n : ℕ)
      → record { received = g.received n; held = (g.path (suc n)).held; done = (g.path (suc n)).done }
      ≡ sink.sink s (g.path n).state r.settings (g.path (suc n)).source.unit (g.path n).held (g.path n).done
  received_outcome n = (h.receives n).outcome_is

  -- ---- the containers

  pub maker_is : (k : ℕ) → g.maker k ≡ sending.state_at s m.first m.calls k
  unfolding sending.state_at
  maker_is zero = h.maker_first
  maker_is (suc k) =
      h.maker_next k
      ∙ ap (λ (o : container-source.SentOutcome). o.sent.state) (sent_outcome k)
      ∙ ap (λ (x : State). (sending.container_source_called s x (m.calls k)).sent.state) (maker_is k)

  pub sent_is : (k : ℕ) → g.sent k ≡ (sending.outcome_at s m.first m.calls k).sent
  sent_is k =
      ap (λ (o : container-source.SentOutcome). o.sent) (sent_outcome k) ∙ ap (λ (x : State). (sending.container_source_called s x (m.calls k)).sent) (maker_is k)

  -- "given its containers in order"
  pub supplied : Supplied s m r
  supplied k =
      ap (λ (o : container-source.SentOutcome). o.container) (sent_outcome k)
      ∙ ap (λ (x : State). (sending.container_source_called s x (m.calls k)).container) (maker_is k)

  -- ---- the units

  unit_is : (n : ℕ) → (g.path (suc n)).source.unit ≡ (sent s r (g.path n) (r.ask n)).unit
  unit_is n = ap (λ (o : unit-source.MadeOutcome). o.unit) (made_outcome n)

  fed_is : (n : ℕ) → record { received = g.received n; held = (g.path (suc n)).held; done = (g.path (suc n)).done } ≡ fed s r (g.path n) (r.ask n)
  fed_is n =
      let x = g.path n in
      received_outcome n ∙ ap (λ (u : List ℕ). sink.sink s x.state r.settings u x.held x.done) (unit_is n)

  source_is : (n : ℕ) → (g.path (suc n)).source ≡ stream.sending_after s r.box (g.path n).source (r.ask n)
  unfolding stream.sending_after
  source_is n =
      let x = g.path n in
      let made = ap (λ (q : unit-source.MadeOutcome). q.made) (made_outcome n) in
      rw (← (h.source_next n ∙ ap (λ (q : Made). q.state) made), ← (h.number_next n ∙ ap (λ (q : Made). x.source.number + q.ended) made), ← (unit_is n)) refl

  path_on : (n : ℕ) → g.path (suc n) ≡ path_after s r (g.path n) (r.ask n)
  unfolding path_after
  path_on n =
      let state = h.state_next n ∙ ap (λ (o : sink.ReceivedOutcome). o.received.state) (fed_is n) in
      let held = ap (λ (o : sink.ReceivedOutcome). o.held) (fed_is n) in
      let done = ap (λ (o : sink.ReceivedOutcome). o.done) (fed_is n) in
      rw (← (source_is n), ← state, ← held, ← done) refl

  pub path_is : (n : ℕ) → g.path n ≡ path_at s r n
  unfolding path_at
  path_is zero = h.path_first
  path_is (suc n) = path_on n ∙ ap (λ (x : Path). path_after s r x (r.ask n)) (path_is n)

  pub made_is : (n : ℕ) → g.made n ≡ made_at s r n
  made_is n = ap (λ (o : unit-source.MadeOutcome). o.made) (made_outcome n) ∙ ap (λ (x : Path). (sent s r x (r.ask n)).made) (path_is n)

  pub received_is : (n : ℕ) → g.received n ≡ received_at s r n
  received_is n = ap (λ (o : sink.ReceivedOutcome). o.received) (fed_is n) ∙ ap (λ (x : Path). (fed s r x (r.ask n)).received) (path_is n)

  -- THE HOST'S LOG IS THAT OF THE RUN: all that it keeps, and every answer
  pub log_is : g ≡ log_of s m r
  log_is = λ i. record { maker = λ k. maker_is k i; sent = λ k. sent_is k i; path = λ n. path_is n i; made = λ n. made_is n i; received = λ n. received_is n i }

-- AND THERE IS SUCH A HOST, of every run whose containers are the source's
pub host_exists : (s : Shape) (m : Making) (r : Run) → Supplied s m r → Host s m r (log_of s m r)
unfolding sending.state_at path_at path_after stream.sending_after
host_exists s m r box-is =
    record {
      maker_first = refl;
      path_first = refl;
      sends = λ k. send_said _ _ _ _ _ _ _ _ (rw (box-is k) refl);
      maker_next = λ k. refl;
      makes = λ n. make_said _ _ _ _ _ _ _ _ refl;
      source_next = λ n. refl;
      number_next = λ n. refl;
      receives = λ n. feed_said _ _ _ _ _ _ _ _ _ refl;
      state_next = λ n. refl;
    }

-- ---- so the demand is the same of the run and of every host

pub host_demand : (within noneBefore : ℕ) (s : Shape) → Demand within noneBefore s → HostDemand within noneBefore s
host_demand within noneBefore s d m r reached good g h = subst (Settles within s r) (sym (log_is s m r g h)) (d m r reached (supplied s m r g h) good)

pub demand_host : (within noneBefore : ℕ) (s : Shape) → HostDemand within noneBefore s → Demand within noneBefore s
demand_host within noneBefore s d m r reached box-is good = d m r reached good (log_of s m r) (host_exists s m r box-is)

-- DEMAND 3 OF THE CODE
pub host_settles : HostDemand3
host_settles = host_demand most eight au4 demand_3
