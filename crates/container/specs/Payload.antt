-- The payload call of 01, "Containers out of a unit": "writes 2340 bytes, or 2340 of FF where AIS is asked for".
use Rattle.std.specs.Prelude.{◌≡◌, ℕ, Bool, cond, not, List, [], ◌∷◌, ◌++◌, eqb, length, replicate, Result, Ok, Err, ⊤}
use Rattle.refusals.specs.Refusals.{Fault, answer_says, given, said_by, outcome}
use Rattle.refusals.specs.declared.Refusal.{Refusal}
use Rattle.refusals.specs.declared.Refusal.TheVariants.{Container, Payload}
use Rattle.shape.specs.Shape.{Shape}
use Rattle.container.specs.Container.{payload_size, payload_in}

-- what is refused, by the lengths of what is lent: "Payload call: 3, 2"
unfoldable pub payload_faults : Shape → ℕ → ℕ → List (Fault Refusal)
payload_faults s container payload =
    given 3 Container (not (eqb container s.size))
    ++ given 2 Payload (not (eqb payload (payload_size s.columns)))

-- what is written where nothing is wrong
unfoldable pub payload_handed : Shape → List ℕ → Bool → List ℕ
payload_handed s container ais = cond ais (replicate (payload_size s.columns) 0xff) (payload_in s.columns container)

-- all that a call leaves: the answer, and the payload's bytes
pub record Handed : Type 0 where
  pub answer : Result ⊤ Refusal
  pub payload : List ℕ

-- THE PAYLOAD CALL. "A refusal returns its number .. Nothing lent is written."
unfoldable pub payload_call : Shape → List ℕ → Bool → List ℕ → Handed
payload_call s container ais before =
    outcome (payload_faults s (length container) (length before))
    (record { answer = Ok tt; payload = payload_handed s container ais })
    (λ x. record { answer = Err x; payload = before })

-- the answer r is the call's, and the payload is left so
abbrev pub HandsAs : Shape → List ℕ → Bool → List ℕ → Result ⊤ Refusal → List ℕ → Type 0
HandsAs s container ais before r after = ◌≡◌ {A = Handed} (record { answer = r; payload = after }) (payload_call s container ais before)

-- the promise: the answer r says the table's number, 0 where nothing is wrong; and the payload as it was and as it is left
pub record Hands (s : Shape) (container : List ℕ) (ais : Bool) (before : List ℕ) (r : Result ⊤ Refusal) (after : List ℕ) : Type 0 where
  pub number_is : answer_says r ≡ said_by (0 ∷ []) (payload_faults s (length container) (length before))
  pub outcome_is : HandsAs s container ais before r after
