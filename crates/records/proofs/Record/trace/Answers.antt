-- `records::Record::trace` meets its contract: the part is 15 bytes from place 5. Assumes nothing.
use Rattle.records.proofs.Fields.{trace_length}
use Rattle.records.specs.Record.{trace_in}
use mathlib.Core.Path.{refl}
use Rattle.records.proofs.Record.trace.Goals as goal

pub returns : goal.returns
unfolding trace_in
returns c = (refl, search trace_length)
