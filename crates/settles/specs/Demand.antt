-- DEMAND 3, over the definitions that the promises of the two sources and of the sink cite. In the words it was given in:
--   "Take a sink in any state that calls can reach. Then feed it, with settings and buffer lengths that no number refuses, buffers kept between calls, the successive units
--   of one source, given its containers in order, that sends the label and trace expected and no remote defect, settings unchanged, no pointer adjustment in the first eight
--   units, and at least three plain units between adjustments later. At most 66 units of that run end unsettled, and the card's own unsettled total rises by exactly their
--   number, up to its cap. From the 67th unit on, each container that ends is handed back as sent, byte for byte, in order, none lost or doubled, with zero parity violations
--   and no defect."
-- Units and containers are numbered from 0: unit n comes after n others. A row without end stands for its beginnings, so a run is of every length.
use Rattle.std.specs.Prelude.{◌≡◌, ℕ, zero, suc, ◌+◌, ◌≤◌, ◌<◌, min, true, false, cond, List, [], ◌∷◌, ◌++◌, length, replicate, Ok}
use Rattle.settings.specs.Faults.{settings_faults}
use Rattle.shape.specs.Shape.{Shape, unit_length, au4}
use Rattle.shape.specs.declared.Adjustment.{Adjustment}
use Rattle.shape.specs.declared.Adjustment.TheVariants.{Nothing}
use Rattle.container.specs.Container.{payload_size}
use Rattle.overhead.specs.Labels.{fits}
use Rattle.unit_end.specs.Settled.{none_stands}
use Rattle.container_source.specs.Source as container-source
use Rattle.container_source.specs.declared.State as container-source-state
use Rattle.container_source.specs.Source.{Sent}
use Rattle.container_source_theorems.specs.Run as sending
use Rattle.unit_source.specs.Source as unit-source
use Rattle.unit_source.specs.declared.State as unit-source-state
use Rattle.unit_source.specs.Source.{Made}
use Rattle.unit_source_theorems.specs.Sending as stream
use Rattle.settles_stream.specs.InOrder.{boxes, violated_told}
use Rattle.settings.specs.declared.Settings.{Settings}
use Rattle.sink.specs.Sink as sink
use Rattle.sink.specs.declared.State as sink-state
use Rattle.sink.specs.Sink.{Received}
use Rattle.sink_theorems.specs.Reach as reach

-- ---- the run

-- what the container source makes the containers of, from container 1 on: its state as the run begins, and what each call is given
pub record Making : Type 0 where
  pub first : container-source-state.State
  pub calls : ℕ → sending.ContainerSourceCall

-- what a run is of: the containers in order and what is asked for each unit, the sink's settings, the unit source and the sink before it, the buffers that are lent
pub record Run : Type 0 where
  pub box : ℕ → List ℕ
  pub ask : ℕ → Adjustment
  pub settings : Settings
  pub source : unit-source-state.State
  pub state : sink-state.State
  pub unit : List ℕ
  pub held : List ℕ
  pub done : List ℕ

-- a path between two units: the unit source with the number of its current container and the lent unit, the sink's state, and the buffers that are kept for it
pub record Path : Type 0 where
  pub source : stream.Sending
  pub state : sink-state.State
  pub held : List ℕ
  pub done : List ℕ

module _ (s : Shape) (r : Run) where
  -- the unit source is asked for a unit
  abbrev pub sent : Path → Adjustment → unit-source.MadeOutcome
  sent x a = stream.unit_source_called s r.box x.source a

  -- and the sink is fed it
  abbrev pub feeding : Path → Adjustment → reach.SinkCall
  feeding x a = record { settings = r.settings; unit = (sent x a).unit; held = x.held; done = x.done }

  abbrev pub fed : Path → Adjustment → sink.ReceivedOutcome
  fed x a = reach.sink_called s x.state (feeding x a)

  -- "given its containers in order", "buffers kept between calls"
  unfoldable pub path_after : Path → Adjustment → Path
  path_after x a =
      let o = fed x a in
      record { source = stream.sending_after s r.box x.source a; state = o.received.state; held = o.held; done = o.done }

  -- the path before unit n
  unfoldable pub path_at : ℕ → Path
  path_at zero = record { source = record { state = r.source; number = 0; unit = r.unit }; state = r.state; held = r.held; done = r.done }
  path_at (suc n) = path_after (path_at n) (r.ask n)

  -- unit n as it is sent, and what the sink makes of it
  abbrev pub sent_at : ℕ → unit-source.MadeOutcome
  sent_at n = sent (path_at n) (r.ask n)

  abbrev pub fed_at : ℕ → sink.ReceivedOutcome
  fed_at n = fed (path_at n) (r.ask n)

  -- the answers
  abbrev pub made_at : ℕ → Made
  made_at n = (sent_at n).made

  abbrev pub received_at : ℕ → Received
  received_at n = (fed_at n).received

-- ---- what is seen of it

-- whoever makes the calls sees what is kept from one to the next, and what is answered: the container source's state before its call k and its answer, the path before unit n
-- and the answers of the unit source and of the sink
pub record Log : Type 0 where
  pub maker : ℕ → container-source-state.State
  pub sent : ℕ → Sent
  pub path : ℕ → Path
  pub made : ℕ → Made
  pub received : ℕ → Received

-- the log of the run above
abbrev pub log_of : Shape → Making → Run → Log
log_of s m r =
    record {
      maker = sending.state_at s m.first m.calls;
      sent = λ k. (sending.outcome_at s m.first m.calls k).sent;
      path = path_at s r;
      made = made_at s r;
      received = received_at s r;
    }

-- how many of the first n units end unsettled
unfoldable pub unsettled : (ℕ → Received) → ℕ → ℕ
unsettled received zero = 0
unsettled received (suc n) = unsettled received n + cond (received n).settled 0 1

-- how many containers the source says ended in m units from unit n on
unfoldable pub ended_from : (ℕ → Made) → ℕ → ℕ → ℕ
ended_from made n zero = 0
ended_from made n (suc m) = (made n).ended + ended_from made (suc n) m

module _ (s : Shape) (r : Run) (path : ℕ → Path) (received : ℕ → Received) where
  -- the call that fed unit n to the sink, and what it left
  abbrev pub call_at : ℕ → reach.SinkCall
  call_at n = record { settings = r.settings; unit = (path (suc n)).source.unit; held = (path n).held; done = (path n).done }

  abbrev pub left_at : ℕ → sink.ReceivedOutcome
  left_at n = record { received = received n; held = (path (suc n)).held; done = (path (suc n)).done }

  -- the containers that it hands back: those of which the answer tells, out of that unit and the done buffer
  abbrev pub handed_at : ℕ → List (List ℕ)
  handed_at n = reach.handed s (call_at n) (left_at n)

  -- and those of m units from unit n on
  unfoldable pub handed_from : ℕ → ℕ → List (List ℕ)
  handed_from n zero = []
  handed_from n (suc m) = handed_at n ++ handed_from (suc n) m

-- ---- what is given

-- a row of calls of a unit source, from the fresh state on, with any requests, containers and units
pub record Asked : Type 0 where
  pub request : Adjustment
  pub current : List ℕ
  pub next : List ℕ
  pub unit : List ℕ

unfoldable pub source_after : Shape → unit-source-state.State → List Asked → unit-source-state.State
source_after s state [] = state
source_after s state (c ∷ cs) = source_after s (unit-source.unit_source s state c.request c.current c.next c.unit).made.state cs

-- "in any state that calls can reach", the sink and both sources
pub record Reached (s : Shape) (m : Making) (r : Run) : Type 0 where
  pub received : List reach.SinkCall
  pub state_is : r.state ≡ reach.reached s received
  pub asked : List Asked
  pub source_is : r.source ≡ source_after s unit-source.fresh_unit_source asked
  pub made : ℕ → sending.ContainerSourceCall
  pub many : ℕ
  pub first_is : m.first ≡ sending.state_at s container-source.fresh_container_source made many

-- "that sends the label and trace expected and no remote defect": this label, any payload, any other overhead, any violations that can be returned
pub record Given (s : Shape) (label : ℕ) (e : Settings) (c : sending.ContainerSourceCall) : Type 0 where
  pub label_is : c.given.label ≡ label
  pub trace_is : c.trace ≡ e.trace
  pub no_remote : c.given.remote ≡ false
  pub violations_low : c.given.violations ≤ 8
  pub payload_is : length c.payload ≡ payload_size s.columns
  pub container_is : length c.lent ≡ s.size

-- "no pointer adjustment in the first eight units, and at least three plain units between adjustments later"; here in the first so many
pub record Spaced (noneBefore : ℕ) (ask : ℕ → Adjustment) : Type 0 where
  pub quiet : (n : ℕ) → n < noneBefore → ask n ≡ Nothing
  pub apart : (m n : ℕ) → m < n → unit-source.adjusts (ask m) ≡ true → unit-source.adjusts (ask n) ≡ true → m + 3 < n

-- "settings and buffer lengths that no number refuses"; a trace has 15 characters by its type
pub record Fine (s : Shape) (r : Run) : Type 0 where
  pub settings_fine : settings_faults r.settings ≡ []
  pub trace_is : length r.settings.trace ≡ 15
  pub unit_is : length r.unit ≡ unit_length s
  pub held_is : length r.held ≡ s.size
  pub done_is : length r.done ≡ s.size

-- "one source, given its containers in order": each after container 0 is the one that the container source's next call leaves
abbrev pub Supplied : Shape → Making → Run → Type 0
Supplied s m r = (k : ℕ) → r.box (suc k) ≡ sending.container_at s m.first m.calls k

-- a good signal
pub record Good (noneBefore : ℕ) (s : Shape) (m : Making) (r : Run) : Type 0 where
  pub fine : Fine s r
  -- container 0 is under way as the run begins: it was made before, and its bytes may be any, of another label or trace too
  pub under_way : length (r.box 0) ≡ s.size
  -- the label is one to expect, the same one throughout
  pub label : ℕ
  pub label_fits : fits label r.settings.label ≡ true
  pub given : (k : ℕ) → Given s label r.settings (m.calls k)
  pub spaced : Spaced noneBefore r.ask

-- ---- what then holds

-- settles within so many units, by its log
pub record Settles (within : ℕ) (s : Shape) (r : Run) (g : Log) : Type 0 where
  -- no call is refused, of either source or of the sink
  pub made_done : (k : ℕ) → (g.sent k).answer ≡ Ok tt
  pub sent_done : (n : ℕ) → (g.made n).answer ≡ Ok tt
  pub fed_done : (n : ℕ) → (g.received n).answer ≡ Ok tt
  -- "At most 66 units of that run end unsettled"
  pub few : (n : ℕ) → unsettled g.received n ≤ within
  -- "and the card's own unsettled total rises by exactly their number, up to its cap"
  pub total_is : (n : ℕ) → (g.path n).state.total ≡ min (r.state.total + unsettled g.received n) 65535
  -- "From the 67th unit on, each container that ends is handed back as sent, byte for byte": those that the source says ended in the unit
  pub back : (n : ℕ) → within ≤ n → handed_at s r g.path g.received n ≡ boxes r.box (g.path n).source.number (g.made n).ended
  -- "in order, none lost or doubled": and so in any units one after the other
  pub in_order : (n units : ℕ) → within ≤ n → handed_from s r g.path g.received n units ≡ boxes r.box (g.path n).source.number (ended_from g.made n units)
  -- "with zero parity violations": columns 00 for each
  pub no_column : (n : ℕ) → within ≤ n → violated_told (g.received n).ended ≡ replicate (g.made n).ended 0x00
  -- "and no defect", none of 01's four, at the end of the unit, which is settled
  pub settled : (n : ℕ) → within ≤ n → (g.received n).settled ≡ true
  pub no_defect : (n : ℕ) → within ≤ n → none_stands (g.received n).defects ≡ true

-- of a shape: every run of a good signal, from any state that calls can reach
abbrev pub Demand : ℕ → ℕ → Shape → Type 0
Demand within noneBefore s = (m : Making) (r : Run) → Reached s m r → Supplied s m r → Good noneBefore s m r → Settles within s r (log_of s m r)

-- "At most 66 units"
abbrev pub most : ℕ
most = 66

-- "the first eight units"
abbrev pub eight : ℕ
eight = 8

-- DEMAND 3
abbrev pub Demand3 : Type 0
Demand3 = Demand most eight au4
