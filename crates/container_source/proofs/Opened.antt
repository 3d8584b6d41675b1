-- What a container source sends, opened, with all that it rests on: `unfolding opened` where it is to be computed. Assumes nothing.
use Prim.{Unit, tt}
use Rattle.parity.specs.Parity.{parity_of}
use Rattle.trace_message.proofs.Opened as message
use Rattle.settings.proofs.Opened as settings
use Rattle.container.specs.Container.{rows_of, heads_of}
use Rattle.container_source.specs.Overhead.{j1_of, g1_of, overhead_of}
use Rattle.container_source.specs.Source.{send_faults, container_sent, container_source_after, container_source}

-- what is refused
unfoldable pub refusals : Unit {0}
unfolding settings.opened send_faults
refusals = tt

unfoldable pub opened : Unit {0}
unfolding message.opened refusals parity_of rows_of heads_of j1_of g1_of overhead_of container_sent container_source_after container_source
opened = tt
