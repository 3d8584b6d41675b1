-- What a shape and an offset tell of a unit, opened: `unfolding opened` where it is to be computed. Assumes nothing.
use Prim.{Unit, tt}
use Rattle.shape.specs.Shape.{held_count, up_of, down_of, offset_after, run_from, ended_by}

unfoldable pub opened : Unit {0}
unfolding held_count up_of down_of offset_after run_from ended_by
opened = tt
