-- DEMAND 3 OF THE CODE: a host plays a run on the three functions, and knows of each call what the function's promise says and nothing else.
use Rattle.std.specs.Prelude.{◌≡◌, ℕ, suc, ◌+◌}
use Rattle.shape.specs.Shape.{Shape, au4}
use Rattle.container_source.specs.Source.{Sends}
use Rattle.unit_source.specs.Source.{Makes}
use Rattle.sink.specs.Sink.{Receives}
use Rattle.settles.specs.Demand.{Run, Making, Log, path_at, Reached, Good, Settles, most, eight}

-- such a host has this log of the run
pub record Host (s : Shape) (m : Making) (r : Run) (g : Log) : Type 0 where
  pub maker_first : g.maker 0 ≡ m.first
  pub path_first : g.path 0 ≡ path_at s r 0
  -- each container after the one that is under way is what the container source's next call leaves in the lent one
  pub sends : (k : ℕ) → Sends s (g.maker k) (m.calls k).given (m.calls k).trace (m.calls k).payload (m.calls k).lent (g.sent k) (r.box (suc k))
  pub maker_next : (k : ℕ) → g.maker (suc k) ≡ (g.sent k).state
  -- the unit source is given the current container and the next, and goes on as many as it says ended
  pub makes : (n : ℕ)
      → Makes s (g.path n).source.state (r.ask n) (r.box (g.path n).source.number) (r.box ((g.path n).source.number + 1)) (g.path n).source.unit (g.made n) (g.path (suc n)).source.unit
  pub source_next : (n : ℕ) → (g.path (suc n)).source.state ≡ (g.made n).state
  pub number_next : (n : ℕ) → (g.path (suc n)).source.number ≡ (g.path n).source.number + (g.made n).ended
  -- the sink is fed the unit, and the buffers that it left before
  pub receives : (n : ℕ)
      → Receives s (g.path n).state r.settings (g.path (suc n)).source.unit (g.path n).held (g.path n).done (g.received n) (g.path (suc n)).held (g.path (suc n)).done
  pub state_next : (n : ℕ) → (g.path (suc n)).state ≡ (g.received n).state

-- the demand of its log; that it gives the source its containers in order is its own doing
abbrev pub HostDemand : ℕ → ℕ → Shape → Type 0
HostDemand within noneBefore s = (m : Making) (r : Run) → Reached s m r → Good noneBefore s m r → (g : Log) → Host s m r g → Settles within s r g

-- DEMAND 3 OF THE CODE
abbrev pub HostDemand3 : Type 0
HostDemand3 = HostDemand most eight au4
