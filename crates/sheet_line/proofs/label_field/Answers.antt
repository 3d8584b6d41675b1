-- `sheet_line::label_field` meets its contract. Assumes nothing.
use Rattle.sheet_line.proofs.Fields.{label_field_lem}
use Rattle.sheet_line.proofs.label_field.Goals as goal

pub returns : goal.returns
returns c = search label_field_lem
