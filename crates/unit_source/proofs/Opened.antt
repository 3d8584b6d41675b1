-- What a unit source sends, opened, with all that it rests on: `unfolding opened` where it is to be computed. Assumes nothing.
use Prim.{Unit, tt}
use Rattle.refusals.specs.Refusals.{due, outcome}
use Rattle.shape.proofs.Opened as shape
use Rattle.unit.specs.Unit.{group_of, head_of, run_of}
use Rattle.unit_source.specs.Source.{adjusts, source_out_of_range, make_faults, word_sent, unit_sent, source_wait_after, unit_source_after, unit_source}

unfoldable pub opened : Unit {0}
unfolding due outcome shape.opened group_of head_of run_of adjusts source_out_of_range make_faults word_sent unit_sent source_wait_after unit_source_after unit_source
opened = tt
