-- A sink's call, with all that it is made of, opened: `unfolding opened` where it is to be computed. Assumes nothing.
use Prim.{Unit, tt}
use Rattle.settings.proofs.Opened as settings
use Rattle.pointer.proofs.Opened as pointer
use Rattle.receiving.proofs.Opened as receiving
use Rattle.unit_end.proofs.Opened as unit-end
use Rattle.sink.specs.Sink.{fresh_sink, sink_out_of_range, sink_faults, pointed, unit_outcome, told, refusing, sink}

unfoldable pub opened : Unit {0}
unfolding settings.opened pointer.opened receiving.opened unit-end.opened fresh_sink sink_out_of_range sink_faults pointed unit_outcome told refusing sink
opened = tt
