-- `pointer::rows_after` meets its contract: rows for each case. Assumes nothing.
use Rattle.pointer.proofs.Cases.{rows_alarm, rows_new, rows_invalid, rows_none}
use Rattle.pointer.proofs.rows_after.Goals as goal

pub returns-in-AlarmWord : goal.returns-in-AlarmWord
returns-in-AlarmWord c = search rows_alarm

pub returns-in-NewData : goal.returns-in-NewData
returns-in-NewData c = search rows_new

pub returns-in-Invalid : goal.returns-in-Invalid
returns-in-Invalid c = search rows_invalid

pub returns-in-Resync : goal.returns-in-Resync
returns-in-Resync c = search rows_none
