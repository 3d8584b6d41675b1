-- What is seen of a container, and the monitor from one to the next, with all that it rests on, opened: `unfolding opened` where it is to be computed. Assumes nothing.
use Prim.{Unit, tt}
use Rattle.parity.specs.Parity.{parity_of}
use Rattle.container.specs.Container.{rows_of, heads_of}
use Rattle.overhead.proofs.Opened as overhead
use Rattle.trace_monitor.proofs.Opened as trace
use Rattle.monitor.specs.Seeing.{seen_in}
use Rattle.monitor.specs.Monitoring.{forgot, blank_of, watch_step, monitor_step, seen_of, watch_in_range}

unfoldable pub opened : Unit {0}
unfolding parity_of rows_of heads_of overhead.opened trace.opened seen_in forgot blank_of watch_step monitor_step seen_of watch_in_range
opened = tt
