-- `sheet_line::inside` meets its contract. Assumes nothing.
use Rattle.sheet_line.proofs.Fields.{inside_is}
use Rattle.sheet_line.proofs.inside.Goals as goal

pub returns : goal.returns
returns c = search inside_is
