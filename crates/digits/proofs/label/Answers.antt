-- `digits::label` meets its contract. Assumes nothing.
use Rattle.digits.proofs.Laws.{label_has_0, label_has_1, label_first, label_second, label_made}
use Rattle.digits.proofs.label.Goals as goal

pub bounds-s-0 : goal.bounds-s-0
bounds-s-0 c = search label_has_0

pub hex_value-requires : goal.hex_value-requires
hex_value-requires c = search label_first

pub bounds-s-1 : goal.bounds-s-1
bounds-s-1 c = search label_has_1

pub hex_value-requires-2 : goal.hex_value-requires-2
hex_value-requires-2 c = search label_second

pub returns : goal.returns
returns c = search label_made
