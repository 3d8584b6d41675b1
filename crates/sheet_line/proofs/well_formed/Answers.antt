-- `sheet_line::well_formed` meets its contract. Assumes nothing.
use Rattle.sheet_line.proofs.Fields.{well_formed_lem}
use Rattle.sheet_line.proofs.well_formed.Goals as goal

pub returns : goal.returns
returns c = search well_formed_lem fits 20000
