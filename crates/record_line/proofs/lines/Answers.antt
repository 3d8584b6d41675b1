-- `record_line::lines` meets its contract: after k turns the lines of the first k records are written. Assumes nothing.
use Rattle.record_line.proofs.Rows.{lines_none, line_room, lines_turn, lines_end}
use Rattle.record_line.proofs.lines.Goals as goal

pub loop-k-init : goal.loop-k-init
loop-k-init c = search lines_none

pub line-requires : goal.line-requires
line-requires c = search line_room

pub loop-k-preserved : goal.loop-k-preserved
loop-k-preserved c = search lines_turn

pub returns : goal.returns
returns c = search lines_end
