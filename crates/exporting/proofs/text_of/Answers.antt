-- `exporting::text_of` meets its contract: the lines, from the start on. Assumes nothing.
use Rattle.exporting.proofs.Answers.{lines_room, lines_written}
use Rattle.exporting.proofs.text_of.Goals as goal

pub lines-requires : goal.lines-requires
lines-requires c = search lines_room

pub returns : goal.returns
returns c = search lines_written
