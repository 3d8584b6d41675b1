-- `records::Record::circuit_refused` meets its contract. Assumes nothing.
use Rattle.records.specs.Record.{circuit_refused}
use mathlib.Core.Path.{refl}
use Rattle.records.proofs.Record.circuit_refused.Goals as goal

pub returns : goal.returns
unfolding circuit_refused
returns c = refl
