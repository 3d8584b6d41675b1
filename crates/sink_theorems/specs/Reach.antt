-- The states that calls of the sink can reach: from the fresh one, by any row of calls, refused ones, other settings, other units and buffers among them.
use Rattle.std.specs.Prelude.{List, [], ◌∷◌, ℕ}
use Rattle.shape.specs.Shape.{Shape}
use Rattle.view.specs.View.{handed_back}
use Rattle.settings.specs.declared.Settings.{Settings}
use Rattle.sink.specs.Sink.{fresh_sink, ReceivedOutcome, sink}
use Rattle.sink.specs.declared.State.{State}

-- what a call is given beside the state
pub record SinkCall : Type 0 where
  pub settings : Settings
  pub unit : List ℕ
  pub held : List ℕ
  pub done : List ℕ

-- what it leaves, and the state among it
abbrev pub sink_called : Shape → State → SinkCall → ReceivedOutcome
sink_called s state c = sink s state c.settings c.unit c.held c.done

unfoldable pub after_calls : Shape → State → List SinkCall → State
after_calls s state [] = state
after_calls s state (c ∷ cs) = after_calls s (sink_called s state c).received.state cs

-- the state after a row of calls from the fresh one
abbrev pub reached : Shape → List SinkCall → State
reached s calls = after_calls s fresh_sink calls

-- ---- what is handed back

-- the containers that the answer tells of, each where the view finds it: in the done buffer, in the unit itself
unfoldable pub handed : Shape → SinkCall → ReceivedOutcome → List (List ℕ)
handed s c o = handed_back o.received.ended s.size o.done c.unit
