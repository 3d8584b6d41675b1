-- `record_line::trace_and_flags` meets its contract: five pieces in a row. Assumes nothing.
use Rattle.record_line.proofs.Writing.{trace_and_flags_lem}
use Rattle.record_line.proofs.trace_and_flags.Goals as goal

pub returns : goal.returns
returns c = search trace_and_flags_lem
