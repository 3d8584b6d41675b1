-- `pairs::one_trace` meets its contract. Assumes nothing.
use Rattle.pairs.proofs.Scan.{one_trace_lem}
use Rattle.pairs.proofs.one_trace.Goals as goal

pub returns : goal.returns
returns c = search one_trace_lem
