-- A sink's state and answer with no enum in them, so that tests and benchmarks in another language can give any state and read all that a call leaves; and a container that it handed back.
use Rattle.std.specs.Prelude.{◌≡◌, ℕ, false, cond, List, eqb, ltb, length, Result, ⊤}
use Rattle.copier.specs.Put.{put}
use Rattle.refusals.specs.Refusals.{answer_number, answer_place}
use Rattle.refusals.specs.declared.Refusal.{Refusal}
use Rattle.shape.specs.Shape.{au4}
use Rattle.pointer_state.specs.declared.State as pointer-state
use Rattle.pointer_state.specs.declared.State.TheVariants.{Normal, Alarm, Lost}
use Rattle.pointer_state.specs.State.{offset_of}
use Rattle.settings.specs.declared.Settings.{Settings}
use Rattle.receiving.specs.Receiving.{silence}
use Rattle.receiving.specs.declared.Ended.{Ended}
use Rattle.unit_end.specs.Actions.{no_defects, no_actions, no_causes}
use Rattle.view.specs.View.{container_handed}
use Rattle.sink.specs.declared.State.{State}
use Rattle.sink.specs.declared.Report.{Report}
use Rattle.sink.specs.Sink.{Received, ReceivedOutcome, sink}
use Rattle.probe_sink.specs.declared.Plain.{Plain}
use Rattle.probe_sink.specs.declared.Shown.{Shown}

-- 0 lost, 1 alarm, any other normal at the offset
unfoldable pub pointer_state : ℕ → ℕ → pointer-state.State
pointer_state kind offset = cond (eqb kind 0) Lost (cond (eqb kind 1) Alarm (Normal offset))

unfoldable pub state_kind : pointer-state.State → ℕ
state_kind (Normal _) = 2
state_kind Alarm = 1
state_kind Lost = 0

unfoldable pub state_of : Plain → State
state_of p =
    record {
      pointer = record { state = pointer_state p.kind p.offset; rows = p.rows; run = p.run; wait = p.wait };
      held = p.held;
      monitor = p.monitor;
      total = p.total;
    }

unfoldable pub plain_of : State → Plain
plain_of s =
    record {
      kind = state_kind s.pointer.state;
      offset = offset_of s.pointer.state;
      rows = s.pointer.rows;
      run = s.pointer.run;
      wait = s.pointer.wait;
      held = s.held;
      monitor = s.monitor;
      total = s.total;
    }

-- what is told of a unit where none was
unfoldable pub untold : Report
untold = record { ended = silence.ended; actions = no_actions; defects = no_defects; causes = no_causes; settled = false }

-- an answer, a state and a report, as one
abbrev pub received_as : Result ⊤ Refusal → State → Report → Received
received_as a state r = record { answer = a; state = state; ended = r.ended; actions = r.actions; defects = r.defects; causes = r.causes; settled = r.settled }

unfoldable pub shown_of : Received → Shown
shown_of x =
    record {
      number = answer_number x.answer;
      place = answer_place x.answer;
      state = plain_of x.state;
      ended = x.ended;
      actions = x.actions;
      defects = x.defects;
      causes = x.causes;
      settled = x.settled;
    }

-- all that a probe leaves: what it shows, and the bytes of both buffers
pub record SinkProbed : Type 0 where
  pub shown : Shown
  pub held : List ℕ
  pub done : List ℕ

abbrev pub probed_of : ReceivedOutcome → SinkProbed
probed_of o = record { shown = shown_of o.received; held = o.held; done = o.done }

abbrev pub Shows : Plain → Settings → List ℕ → List ℕ → List ℕ → Shown → List ℕ → List ℕ → Type 0
Shows p e unit held done r held' done' = ◌≡◌ {A = SinkProbed} (record { shown = r; held = held'; done = done' }) (probed_of (sink au4 (state_of p) e unit held done))

-- a container written to the start of a lent buffer: how many bytes, and the buffer; 0 and the buffer as it was, where it is too short
pub record ContainerWritten : Type 0 where
  pub number : ℕ
  pub bytes : List ℕ

unfoldable pub written_to : List ℕ → List ℕ → ContainerWritten
written_to container out = cond (ltb (length out) (length container)) (record { number = 0; bytes = out }) (record { number = length container; bytes = put 0 container out })

abbrev pub WritesContainer : Ended → List ℕ → List ℕ → ℕ → List ℕ → ℕ → List ℕ → Type 0
WritesContainer e unit done k out r out' = ◌≡◌ {A = ContainerWritten} (record { number = r; bytes = out' }) (written_to (container_handed e au4.size done unit k) out)
