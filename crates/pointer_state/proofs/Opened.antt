-- What is asked of the pointer's state, opened: `unfolding opened` where it is to be computed. Assumes nothing.
use Prim.{Unit, tt}
use Rattle.pointer_state.specs.State.{is_normal, is_alarm, is_lost, offset_of, placed}

unfoldable pub opened : Unit {0}
unfolding is_normal is_alarm is_lost offset_of placed
opened = tt
