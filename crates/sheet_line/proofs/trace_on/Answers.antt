-- `sheet_line::trace_on` meets its contract. Assumes nothing.
use Rattle.sheet_line.proofs.Fields.{trace_on_lem}
use Rattle.sheet_line.proofs.trace_on.Goals as goal

pub returns : goal.returns
returns c = search trace_on_lem
