-- How a unit is cut into containers, opened: `unfolding opened` where it is to be computed. Assumes nothing.
use Prim.{Unit, tt}
use Rattle.cut.specs.Cut.{next_of, inside_of, begin_of, cut_of, completed_of, inside_part, ended_of, ended_count, done_of, held_of}

unfoldable pub opened : Unit {0}
unfolding next_of inside_of begin_of cut_of completed_of inside_part ended_of ended_count done_of held_of
opened = tt
