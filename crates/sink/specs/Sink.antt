-- The sink: one call, as a function of all that it is given. 01, from "Reading one pointer word" to "Refusal numbers". Each part is a machine of its own:
-- how a word is taken (`pointer_rules`), the pointer (`pointer`), the cut of a unit (`cut`), what is watched in a container (`monitor`), what a unit leaves (`receiving`),
-- what is told of it (`unit_end`). Here they are put in order.
use Rattle.std.specs.Prelude.{◌≡◌, ℕ, Bool, false, cond, not, ◌||◌, List, [], ◌∷◌, ◌++◌, eqb, length, get_or, Result, Ok, Err, ⊤}
use Rattle.word.specs.Word.{word_of}
use Rattle.settings.specs.Faults.{settings_faults}
use Rattle.refusals.specs.Refusals.{Fault, answer_says, given, said_by, outcome}
use Rattle.refusals.specs.declared.Refusal.{Refusal}
use Rattle.refusals.specs.declared.Refusal.TheVariants as wrong
use Rattle.shape.specs.Shape.{Shape, unit_length, held_count}
use Rattle.pointer_state.specs.State.{is_alarm, is_lost, is_normal, offset_of}
use Rattle.pointer.specs.Machine as pointer
use Rattle.pointer.specs.declared.Pointer.{Pointer}
use Rattle.pointer.specs.declared.AfterWord.{AfterWord}
use Rattle.monitor.specs.Monitoring as monitor
use Rattle.settings.specs.declared.Settings.{Settings}
use Rattle.receiving.specs.Receiving.{UnitOutcome, received_normal, silence}
use Rattle.receiving.specs.declared.AfterUnit.{AfterUnit}
use Rattle.receiving.specs.declared.Ended.{Ended}
use Rattle.unit_end.specs.declared.Defects.{Defects}
use Rattle.unit_end.specs.declared.Actions.{Actions}
use Rattle.unit_end.specs.declared.Causes.{Causes}
use Rattle.unit_end.specs.Terms.{termination}
use Rattle.unit_end.specs.Actions.{defects_of, ssf_of, actions_of, causes_of, no_defects, no_actions, no_causes}
use Rattle.unit_end.specs.Settled.{settled_of, total_of}
use Rattle.sink.specs.declared.State.{State}
use Rattle.sink.specs.declared.Report.{Report}

-- "it starts lost, the wait 3, all else 0 or none"
unfoldable pub fresh_sink : State
fresh_sink = record { pointer = pointer.fresh_pointer; held = 0; monitor = monitor.blank_of 0; total = 0 }

-- ---- what is refused

-- "A normal state's held count is 2349 minus 3 times the offset, or 0 at offset 0; any other state's is 0"
abbrev pub held_in : Shape → Pointer → ℕ
held_in s p = held_count s (offset_of p.state)

-- "a state number outside its range, or a held count other than the one above"
unfoldable pub sink_out_of_range : Shape → State → Bool
sink_out_of_range s state =
    not (pointer.pointer_in_range s.top state.pointer)
    || not (monitor.monitor_in_range state.monitor)
    || not (eqb state.held (held_in s state.pointer))

-- what is refused: "Sink: 8, 4, 5, 1, 3", 4 and 5 of the settings. Of unit, held and done the lengths count.
unfoldable pub sink_faults : Shape → State → Settings → ℕ → ℕ → ℕ → List (Fault Refusal)
sink_faults s state e unit held done =
    given 8 wrong.State (sink_out_of_range s state)
    ++ (settings_faults e
    ++ (given 1 wrong.Unit (not (eqb unit (unit_length s)))
    ++ given 3 wrong.Container (not (eqb held s.size) || not (eqb done s.size))))

-- ---- one unit

-- "H1 Y Y H2 ..": the pointer word of a unit
abbrev pub word_in : Shape → List ℕ → ℕ
word_in s unit = word_of (get_or unit 0 0) (get_or unit s.step 0)

-- how its word is taken, and the pointer after it
unfoldable pub pointed : Shape → Pointer → List ℕ → AfterWord
pointed s p unit = pointer.pointer_step p s.top (word_in s unit)

-- what it leaves, a being the pointer after it: "A unit that ends in alarm or lost has SSF and hands back nothing", and writes nothing
unfoldable pub unit_outcome : Shape → State → AfterWord → Settings → List ℕ → List ℕ → List ℕ → UnitOutcome
unit_outcome s state a e unit held done =
    cond (is_normal a.pointer.state)
    (received_normal s a.taken (offset_of a.pointer.state) state.held state.monitor e unit held done)
    (record { after = silence; held = held; done = done })

-- the answer, and the state from then on; of the unit, what ended, the actions, the defects, the causes, and whether it ended settled. Where the call was
-- refused the state is the old one, and nothing is told of a unit.
pub record Received : Type 0 where
  pub answer : Result ⊤ Refusal
  pub state : State
  pub ended : Ended
  pub actions : Actions
  pub defects : Defects
  pub causes : Causes
  pub settled : Bool

-- "Actions and causes are taken at the unit's end", and so are settled and the total
unfoldable pub told : Pointer → ℕ → AfterUnit → Settings → Received
told p total u e =
    let alarm = is_alarm p.state in
    let lost = is_lost p.state in
    let defects = defects_of u.monitor in
    let settled = settled_of (is_normal p.state) u.monitor e in
    record {
      answer = Ok tt;
      state = record { pointer = p; held = u.held; monitor = u.monitor; total = total_of total settled };
      ended = u.ended;
      actions = actions_of termination (ssf_of alarm lost) defects;
      defects = defects;
      causes = causes_of termination alarm lost defects e.flags;
      settled = settled;
    }

-- ---- the call

-- all that it leaves: what is answered, and the bytes of held and done
pub record ReceivedOutcome : Type 0 where
  pub received : Received
  pub held : List ℕ
  pub done : List ℕ

-- "A refusal returns its number and the old state": it is no unit, and nothing is told of one
unfoldable pub refusing : State → Refusal → Received
refusing state x =
    record {
      answer = Err x;
      state = state;
      ended = silence.ended;
      actions = no_actions;
      defects = no_defects;
      causes = no_causes;
      settled = false;
    }

-- what is received, of what the function answers, the report or the refusal, and of the state that it leaves
unfoldable pub received_by : Result Report Refusal → State → Received
received_by (Ok r) state = record { answer = Ok tt; state = state; ended = r.ended; actions = r.actions; defects = r.defects; causes = r.causes; settled = r.settled }
received_by (Err x) state = refusing state x

-- THE SINK. "Nothing lent is written" where it refuses.
unfoldable pub sink : Shape → State → Settings → List ℕ → List ℕ → List ℕ → ReceivedOutcome
sink s state e unit held done =
    let a = pointed s state.pointer unit in
    let l = unit_outcome s state a e unit held done in
    outcome (sink_faults s state e (length unit) (length held) (length done))
    (record { received = told a.pointer state.total l.after e; held = l.held; done = l.done })
    (λ x. record { received = refusing state x; held = held; done = done })

-- what is answered is the call's, and held and done are left so
abbrev pub ReceivesAs : Shape → State → Settings → List ℕ → List ℕ → List ℕ → Received → List ℕ → List ℕ → Type 0
ReceivesAs s state e unit held done r held' done' =
    ◌≡◌ {A = ReceivedOutcome} (record { received = r; held = held'; done = done' }) (sink s state e unit held done)

-- the promise: the answer says the table's number, 0 where nothing is wrong; and all that is answered, with held and done as they were and as they are left
pub record Receives (s : Shape) (state : State) (e : Settings) (unit held done : List ℕ) (r : Received) (held' done' : List ℕ) : Type 0 where
  pub number_is : answer_says r.answer ≡ said_by (0 ∷ []) (sink_faults s state e (length unit) (length held) (length done))
  pub outcome_is : ReceivesAs s state e unit held done r held' done'
