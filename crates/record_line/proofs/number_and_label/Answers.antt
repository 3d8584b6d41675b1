-- `record_line::number_and_label` meets its contract: three pieces in a row. Assumes nothing.
use Rattle.record_line.proofs.Writing.{number_and_label_lem}
use Rattle.record_line.proofs.number_and_label.Goals as goal

pub returns : goal.returns
returns c = search number_and_label_lem
