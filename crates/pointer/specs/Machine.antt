-- The pointer from word to word: 01, "Reading one pointer word". How a word is taken is in the crate `pointer_rules`; here is what it leads to.
-- `top` is the largest pointer value: 782 in AU-4, 764 in TU-3.
use Rattle.std.specs.Prelude.{ℕ, Bool, cond, ◌&&◌, leb}
use Rattle.counts.specs.Counts.{more}
use Rattle.pointer_rules.specs.Rules.{no_run, run_after, taken_as}
use Rattle.pointer_state.specs.State.{is_normal, placed}
use Rattle.pointer_state.specs.declared.State.{State}
use Rattle.pointer_state.specs.declared.State.TheVariants.{Normal, Alarm, Lost}
use Rattle.pointer_rules.specs.declared.Taken.{Taken}
use Rattle.pointer_rules.specs.declared.Taken.TheVariants.{AlarmWord, NewData, Resync, Adjusted, Plain, Invalid}
use Rattle.pointer_rules.specs.declared.Run.{Run}
use Rattle.pointer.specs.declared.Rows.{Rows}
use Rattle.pointer.specs.declared.Pointer.{Pointer}
use Rattle.pointer.specs.declared.AfterWord.{AfterWord}

abbrev pub no_rows : Rows
no_rows = record { alarms = 0; news = 0; invalids = 0 }

-- "it starts lost, the wait 3, all else 0 or none"
unfoldable pub fresh_pointer : Pointer
fresh_pointer = record { state = Lost; rows = no_rows; run = no_run; wait = 3 }

-- ---- what a word leads to, by how it is taken

-- "Any other kind of word ends a row; rows are counted in lost too"
unfoldable pub rows_after : Rows → Taken → Rows
rows_after rows AlarmWord = record { alarms = more rows.alarms 3; news = 0; invalids = 0 }
rows_after rows (NewData v) = record { alarms = 0; news = more rows.news 8; invalids = 0 }
rows_after rows (Resync v) = no_rows
rows_after rows (Adjusted a v) = no_rows
rows_after rows Plain = no_rows
rows_after rows Invalid = record { alarms = 0; news = 0; invalids = more rows.invalids 8 }

-- rule 1: "Three in a row lead to alarm from any state". Here and in the next, `row` is the row with this word in it.
unfoldable pub alarm_word : State → ℕ → State
alarm_word state row = cond (leb 3 row) Alarm state

-- rule 2: "From normal or alarm, normal at that value, but the eighth in a row leads to lost. In lost it changes nothing"
unfoldable pub renewed : ℕ → ℕ → State
renewed row v = cond (leb 8 row) Lost (Normal v)

unfoldable pub new_data : State → ℕ → ℕ → State
new_data (Normal at) row v = renewed row v
new_data Alarm row v = renewed row v
new_data Lost row v = Lost

-- rule 6: "Eight in a row, in normal or alarm, lead to lost"
unfoldable pub invalid : State → ℕ → State
invalid state row = cond (leb 8 row) Lost state

-- each rule's state, of rule 3 "normal at that value", of rule 5 as it was; `rows` are those with this word in them
unfoldable pub state_after : State → Rows → Taken → State
state_after state rows AlarmWord = alarm_word state rows.alarms
state_after state rows (NewData v) = new_data state rows.news v
state_after state rows (Resync v) = Normal v
state_after state rows (Adjusted a v) = Normal v
state_after state rows Plain = state
state_after state rows Invalid = invalid state rows.invalids

-- the units since "the last adjustment or new data that ended normal (the wait)"; `state` is the one that the word leads to
unfoldable pub wait_after : ℕ → State → Taken → ℕ
wait_after wait state AlarmWord = more wait 3
wait_after wait state (NewData v) = cond (is_normal state) 0 (more wait 3)
wait_after wait state (Resync v) = more wait 3
wait_after wait state (Adjusted a v) = 0
wait_after wait state Plain = more wait 3
wait_after wait state Invalid = more wait 3

-- ---- one word

-- how the word w is taken in s
unfoldable pub taken_in : Pointer → ℕ → ℕ → Taken
taken_in s top w = taken_as s.state (run_after s.run top w).count s.wait top w

-- THE STEP: how w is taken in s, and the pointer after it
unfoldable pub pointer_step : Pointer → ℕ → ℕ → AfterWord
pointer_step s top w =
    let run = run_after s.run top w in
    let t = taken_in s top w in
    let rows = rows_after s.rows t in
    let state = state_after s.state rows t in
    record { taken = t; pointer = record { state = state; rows = rows; run = run; wait = wait_after s.wait state t } }

-- ---- ranges: "Counts stop at the end of their range: alarm words, alike words, .. wait 3; invalid and enabled words 8"

abbrev pub rows_in : Rows → Bool
rows_in rows = leb rows.alarms 3 && leb rows.news 8 && leb rows.invalids 8

abbrev pub run_in : ℕ → Run → Bool
run_in top run = leb run.count 3 && leb run.value top

unfoldable pub pointer_in_range : ℕ → Pointer → Bool
pointer_in_range top s = placed top s.state && rows_in s.rows && run_in top s.run && leb s.wait 3
