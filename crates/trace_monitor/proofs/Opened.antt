-- The trace as received, with the message, opened: `unfolding opened` where it is to be computed. Assumes nothing.
use Prim.{Unit, tt}
use Rattle.counts.specs.Counts.{run_on}
use Rattle.trace_message.proofs.Opened as message
use Rattle.trace_monitor.specs.Trace.{gathered_of, ends_good, spoils, with_good, without_good, trace_of, blank_trace}

unfoldable pub opened : Unit {0}
unfolding run_on message.opened gathered_of ends_good spoils with_good without_good trace_of blank_trace
opened = tt
