-- Calls of a sink one after the other, opened, with all that they are made of: `unfolding opened` where they are to be computed. Assumes nothing.
use Prim.{Unit, tt}
use Rattle.sink.proofs.Opened as sink
use Rattle.sink_theorems.specs.Reach.{after_calls}

unfoldable pub opened : Unit {0}
unfolding sink.opened after_calls
opened = tt
