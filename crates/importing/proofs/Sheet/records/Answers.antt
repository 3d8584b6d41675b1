-- `importing::Sheet::records` meets its contract: the records of the lines before the rest are written. Assumes nothing.
use Rattle.importing.proofs.Making.{half_start, half_turn, half_end, line_sound, record_room}
use Rattle.importing.proofs.Sheet.records.Goals as goal

pub loop-line-init : goal.loop-line-init
loop-line-init c = search half_start

pub record-requires : goal.record-requires
record-requires c = (search (line_sound, c.in-Some.ensures), search (record_room, c.in-Some.ensures))

pub loop-line-preserved : goal.loop-line-preserved
loop-line-preserved c = search (half_turn, c.in-Some.ensures)

pub returns : goal.returns
returns c = search (half_end, c.in_default.ensures)
