-- `sheet_line::record` meets its contract: three pieces in a row. Assumes nothing.
use Rattle.sheet_line.proofs.Writing.{trace_fits, flags_fits, record_written}
use Rattle.sheet_line.proofs.record.Goals as goal

pub trace-requires : goal.trace-requires
trace-requires c = search trace_fits

pub byte-requires : goal.byte-requires
byte-requires c = search flags_fits

pub returns : goal.returns
returns c = search record_written fits 20000
