-- The unit source: one call, as a function of all that it is given. 01, "Layouts", "Reading one pointer word" (its last words, on adjustments) and "Refusal numbers".
use Rattle.std.specs.Prelude.{◌≡◌, ℕ, ◌-◌, Bool, true, false, ◌&&◌, ◌||◌, not, List, [], ◌∷◌, ◌++◌, eqb, ltb, length, Result, Ok, Err, ⊤}
use Rattle.counts.specs.Counts.{more}
use Rattle.word.specs.Word.{plain_word, inverted_word, bits_i, bits_d}
use Rattle.refusals.specs.Refusals.{Fault, answer_says, given, said_by, outcome}
use Rattle.refusals.specs.declared.Refusal.{Refusal}
use Rattle.refusals.specs.declared.Refusal.TheVariants as wrong
use Rattle.shape.specs.Shape.{Shape, unit_length, held_count, offset_after, run_from, ended_by}
use Rattle.shape.specs.declared.Adjustment.{Adjustment}
use Rattle.shape.specs.declared.Adjustment.TheVariants.{Nothing, Increment, Decrement}
use Rattle.unit.specs.Unit.{head_of, run_of}
use Rattle.unit_source.specs.declared.State.{State}

-- "Fresh, it stands at offset 0, free to adjust"
abbrev pub fresh_unit_source : State
fresh_unit_source = record { offset = 0; wait = 3 }

-- an adjustment is asked for
unfoldable pub adjusts : Adjustment → Bool
adjusts Nothing = false
adjusts Increment = true
adjusts Decrement = true

-- ---- what is refused

-- "a state number outside its range": the offset is a pointer value, and the wait stops at 3
unfoldable pub source_out_of_range : ℕ → State → Bool
source_out_of_range top state = ltb top state.offset || ltb 3 state.wait

-- what is refused: "Unit source: 8, 3, 1, 7". Of the containers and the unit the lengths count; 7 is "adjustment asked with fewer than three units since the last"
unfoldable pub make_faults : Shape → State → Adjustment → ℕ → ℕ → ℕ → List (Fault Refusal)
make_faults s state a current next unit =
    given 8 wrong.State (source_out_of_range s.top state)
    ++ (given 3 wrong.Container (not (eqb current s.size) || not (eqb next s.size))
    ++ (given 1 wrong.Unit (not (eqb unit (unit_length s)))
    ++ given 7 wrong.Adjustment (adjusts a && ltb state.wait 3)))

-- ---- what is sent

-- "the source sends the inverted word in the unit of the adjustment and the new value from the next"
unfoldable pub word_sent : Adjustment → ℕ → ℕ
word_sent Nothing offset = plain_word offset
word_sent Increment offset = inverted_word bits_i offset
word_sent Decrement offset = inverted_word bits_d offset

-- the unit: its header, and the run of what is left of the current container and then the next
unfoldable pub unit_sent : Shape → Adjustment → ℕ → List ℕ → List ℕ → List ℕ
unit_sent s a offset current next =
    head_of s.step (word_sent a offset) (run_from s.step a)
    ++ run_of (unit_length s - run_from s.step a) (held_count s offset) current next

-- ---- the state after it

-- units since the last adjustment, as far as 3
unfoldable pub source_wait_after : Adjustment → ℕ → ℕ
source_wait_after Nothing wait = more wait 3
source_wait_after Increment wait = 0
source_wait_after Decrement wait = 0

unfoldable pub unit_source_after : Shape → Adjustment → State → State
unit_source_after s a state = record { offset = offset_after s.top a state.offset; wait = source_wait_after a state.wait }

-- ---- the call

-- the answer; how many of the two containers ended, 0 where the call was refused; and the state from then on, the old one where it was
pub record Made : Type 0 where
  pub answer : Result ⊤ Refusal
  pub ended : ℕ
  pub state : State

-- the same of what the function answers, how many ended or the refusal, and of the state that it leaves
unfoldable pub made_by : Result ℕ Refusal → State → Made
made_by (Ok n) state = record { answer = Ok tt; ended = n; state = state }
made_by (Err x) state = record { answer = Err x; ended = 0; state = state }

-- all that it leaves: the answer with the count and the state, and the unit's bytes
pub record MadeOutcome : Type 0 where
  pub made : Made
  pub unit : List ℕ

-- THE UNIT SOURCE. "It takes the current container and the next, and says how many of them ended." "A refusal returns its number and the old state.
-- Nothing lent is written": a refused call is no unit, and none ended in it.
unfoldable pub unit_source : Shape → State → Adjustment → List ℕ → List ℕ → List ℕ → MadeOutcome
unit_source s state a current next before =
    outcome (make_faults s state a (length current) (length next) (length before))
    (record { made = record { answer = Ok tt; ended = ended_by a state.offset; state = unit_source_after s a state }; unit = unit_sent s a state.offset current next })
    (λ x. record { made = record { answer = Err x; ended = 0; state = state }; unit = before })

-- what is answered is the call's, and the unit is left so
abbrev pub MakesAs : Shape → State → Adjustment → List ℕ → List ℕ → List ℕ → Made → List ℕ → Type 0
MakesAs s state a current next before r after = ◌≡◌ {A = MadeOutcome} (record { made = r; unit = after }) (unit_source s state a current next before)

-- the promise: the answer says the table's number, 0 where nothing is wrong; and the unit as it was and as it is left
pub record Makes (s : Shape) (state : State) (a : Adjustment) (current next before : List ℕ) (r : Made) (after : List ℕ) : Type 0 where
  pub number_is : answer_says r.answer ≡ said_by (0 ∷ []) (make_faults s state a (length current) (length next) (length before))
  pub outcome_is : MakesAs s state a current next before r after
