-- A run, opened, with all that it is made of: `unfolding opened` where it is to be computed. Assumes nothing.
use Prim.{Unit, tt}
use lib.Count.{ones, ones_in}
use Rattle.container_source.proofs.Opened as container-source
use Rattle.unit_source.proofs.Opened as unit-source
use Rattle.unit_source_theorems.specs.Sending.{sending_after}
use Rattle.view.specs.View.{part_of, in_order}
use Rattle.sink_theorems.specs.Reach.{handed}
use Rattle.sink_theorems.proofs.Opened as sink
use Rattle.settles.specs.Demand.{path_after, path_at}

unfoldable pub opened : Unit {0}
unfolding sink.opened container-source.opened unit-source.opened sending_after handed in_order part_of ones ones_in path_after path_at
opened = tt
