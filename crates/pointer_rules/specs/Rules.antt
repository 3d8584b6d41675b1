-- How a pointer word is taken: 01, "Reading one pointer word", in its order. A word w is a number of sixteen bits, as the crate `word` reads it.
-- `top` is the largest pointer value: 782 in AU-4, 764 in TU-3.
use Rattle.std.specs.Prelude.{ℕ, Bool, true, false, cond, not, ◌&&◌, eqb, ltb, leb}
use Rattle.counts.specs.Counts.{run_on}
use Rattle.word.specs.Word.{normal, enabled, value_of, of_kind, good, bits_i, bits_d, inverted}
use Rattle.shape.specs.Shape.{offset_after}
use Rattle.shape.specs.declared.Adjustment.{Adjustment}
use Rattle.shape.specs.declared.Adjustment.TheVariants as offset
use Rattle.pointer_state.specs.declared.State.{State}
use Rattle.pointer_state.specs.declared.State.TheVariants.{Normal, Alarm, Lost}
use Rattle.pointer_rules.specs.declared.Taken.{Taken}
use Rattle.pointer_rules.specs.declared.Taken.TheVariants.{AlarmWord, NewData, Resync, Adjusted, Plain, Invalid}
use Rattle.pointer_rules.specs.declared.Run.{Run}

-- ---- the run

abbrev pub no_run : Run
no_run = record { count = 0; value = 0 }

-- "The run counts consecutive words with normal NDF, SS 10, value in range and the same value, however else each was taken"
unfoldable pub run_after : Run → ℕ → ℕ → Run
run_after run top w =
    cond (good normal top w)
    (record { count = run_on (eqb run.value (value_of w)) run.count 3; value = value_of w })
    no_run

-- ---- how a word is taken: "First rule that applies"

-- of rule 3: "the state is not normal or its offset differs"
unfoldable pub elsewhere : State → ℕ → Bool
elsewhere (Normal at) v = not (eqb v at)
elsewhere Alarm v = true
elsewhere Lost v = true

-- of rule 4, with i I bits and d D bits inverted: "three or more I bits inverted and at most two D bits is an increment; the mirror case a decrement"
unfoldable pub adjustment : ℕ → ℕ → ℕ → ℕ → Taken
adjustment top at i d =
    cond (leb 3 i && leb d 2) (Adjusted offset.Increment (offset_after top offset.Increment at))
    (cond (leb 3 d && leb i 2) (Adjusted offset.Decrement (offset_after top offset.Decrement at)) Invalid)

-- rule 4: "Normal state, normal NDF, SS 10: value equal to the offset is plain; else, if at least three units lie between .. (the wait)";
-- rule 6: "All else is invalid"
unfoldable pub in_normal : ℕ → ℕ → ℕ → ℕ → Taken
in_normal at wait top w =
    cond (of_kind normal w)
    (cond (eqb (value_of w) at) Plain
    (cond (ltb wait 3) Invalid
    (adjustment top at (inverted bits_i w at) (inverted bits_d w at))))
    Invalid

-- rule 5: "In alarm or lost, a word with normal NDF, SS 10, in range changes nothing and is not invalid", and so is plain; rule 6: "All else is invalid"
unfoldable pub in_alarm_or_lost : ℕ → ℕ → Taken
in_alarm_or_lost top w = cond (good normal top w) Plain Invalid

-- rules 4 to 6, by the state
unfoldable pub by_state : State → ℕ → ℕ → ℕ → Taken
by_state (Normal at) wait top w = in_normal at wait top w
by_state Alarm wait top w = in_alarm_or_lost top w
by_state Lost wait top w = in_alarm_or_lost top w

-- rules 1 to 6. Rule 1: "FFFF is an alarm word"; rule 2: "Enabled NDF, SS 10, in range: new data"; rule 3: "The run is three or more, and ..".
-- `alike` is the count of the run with this word in it.
unfoldable pub taken_as : State → ℕ → ℕ → ℕ → ℕ → Taken
taken_as state alike wait top w =
    cond (eqb w 0xffff) AlarmWord
    (cond (good enabled top w) (NewData (value_of w))
    (cond (leb 3 alike && elsewhere state (value_of w)) (Resync (value_of w))
    (by_state state wait top w)))

-- ---- what the rest of the sink asks of a word so taken

-- "New data (even at the same offset) and rule 3 drop the held bytes and forget the last parity"
unfoldable pub restarts : Taken → Bool
restarts AlarmWord = false
restarts (NewData v) = true
restarts (Resync v) = true
restarts (Adjusted a v) = false
restarts Plain = false
restarts Invalid = false

-- "In an increment unit ..", "In a decrement unit ..": the adjustment that the unit makes
unfoldable pub adjustment_of : Taken → Adjustment
adjustment_of AlarmWord = offset.Nothing
adjustment_of (NewData v) = offset.Nothing
adjustment_of (Resync v) = offset.Nothing
adjustment_of (Adjusted a v) = a
adjustment_of Plain = offset.Nothing
adjustment_of Invalid = offset.Nothing
