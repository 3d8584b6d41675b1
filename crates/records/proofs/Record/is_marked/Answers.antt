-- `records::Record::is_marked` meets its contract. Assumes nothing.
use Rattle.records.specs.Record.{marked}
use mathlib.Core.Path.{refl}
use Rattle.records.proofs.Record.is_marked.Goals as goal

pub returns : goal.returns
unfolding marked
returns c = refl
