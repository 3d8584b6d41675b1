-- The container source: one call, as a function of all that it is given. 01, "Layouts" and "Refusal numbers".
use Rattle.std.specs.Prelude.{◌≡◌, ℕ, ◌+◌, ◌%◌, not, List, [], ◌∷◌, ◌++◌, eqb, ltb, length, Result, Ok, Err, ⊤}
use Rattle.parity.specs.Parity.{parity_of}
use Rattle.settings.specs.Faults.{path_faults}
use Rattle.refusals.specs.Refusals.{Fault, answer_says, given, said_by, outcome}
use Rattle.refusals.specs.declared.Refusal.{Refusal}
use Rattle.refusals.specs.declared.Refusal.TheVariants as wrong
use Rattle.shape.specs.Shape.{Shape}
use Rattle.container.specs.Container.{payload_size, container_of}
use Rattle.container_source.specs.Overhead.{overhead_of}
use Rattle.container_source.specs.declared.State.{State}
use Rattle.container_source.specs.declared.Given.{Given}

-- "a fresh container source begins at the start byte"; B3 is "00 in a source's first"
abbrev pub fresh_container_source : State
fresh_container_source = record { place = 0; parity = 0 }

-- what is refused: "Container source: 8, 4, 5, 2, 3, 6", 4 and 5 of label and trace. Of payload and container the lengths count.
unfoldable pub send_faults : Shape → ℕ → ℕ → List ℕ → ℕ → ℕ → ℕ → List (Fault Refusal)
send_faults s place label trace payload container violations =
    given 8 wrong.State (ltb 15 place)
    ++ (path_faults label trace
    ++ (given 2 wrong.Payload (not (eqb payload (payload_size s.columns)))
    ++ (given 3 wrong.Container (not (eqb container s.size))
    ++ given 6 wrong.Violations (ltb 8 violations))))

-- the container that is sent
unfoldable pub container_sent : Shape → State → Given → List ℕ → List ℕ → List ℕ
container_sent s state g trace payload = container_of s.columns (overhead_of state g trace) payload

-- the state after it: the next place in the message, and the parity of all its bytes, its own B3 among them
unfoldable pub container_source_after : Shape → State → Given → List ℕ → List ℕ → State
container_source_after s state g trace payload = record { place = (state.place + 1) % 16; parity = parity_of (container_sent s state g trace payload) }

-- the answer, and the state from then on: the old one where the call was refused
pub record Sent : Type 0 where
  pub answer : Result ⊤ Refusal
  pub state : State

-- all that a call leaves: the answer with the state, and the container's bytes
pub record SentOutcome : Type 0 where
  pub sent : Sent
  pub container : List ℕ

-- THE CONTAINER SOURCE. "A refusal returns its number and the old state. Nothing lent is written."
unfoldable pub container_source : Shape → State → Given → List ℕ → List ℕ → List ℕ → SentOutcome
container_source s state g trace payload before =
    outcome (send_faults s state.place g.label trace (length payload) (length before) g.violations)
    (record { sent = record { answer = Ok tt; state = container_source_after s state g trace payload }; container = container_sent s state g trace payload })
    (λ x. record { sent = record { answer = Err x; state = state }; container = before })

-- what is answered is the call's, and the container is left so
abbrev pub SendsAs : Shape → State → Given → List ℕ → List ℕ → List ℕ → Sent → List ℕ → Type 0
SendsAs s state g trace payload before r after = ◌≡◌ {A = SentOutcome} (record { sent = r; container = after }) (container_source s state g trace payload before)

-- the promise: the answer says the table's number, 0 where nothing is wrong; and the container as it was and as it is left
pub record Sends (s : Shape) (state : State) (g : Given) (trace payload before : List ℕ) (r : Sent) (after : List ℕ) : Type 0 where
  pub number_is : answer_says r.answer ≡ said_by (0 ∷ []) (send_faults s state.place g.label trace (length payload) (length before) g.violations)
  pub outcome_is : SendsAs s state g trace payload before r after
