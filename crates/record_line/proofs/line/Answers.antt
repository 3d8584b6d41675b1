-- `record_line::line` meets its contract: four pieces in a row. Assumes nothing.
use Rattle.record_line.proofs.Writing.{line_within}
use Rattle.record_line.proofs.line.Goals as goal

pub returns : goal.returns
returns c = search line_within
