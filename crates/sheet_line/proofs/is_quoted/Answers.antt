-- `sheet_line::is_quoted` meets its contract. Assumes nothing.
use Rattle.sheet_line.proofs.Fields.{is_quoted}
use Rattle.sheet_line.proofs.is_quoted.Goals as goal

pub returns : goal.returns
returns c = search is_quoted
