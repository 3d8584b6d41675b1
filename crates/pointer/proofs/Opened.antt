-- The pointer from word to word, with all that it rests on, opened: `unfolding opened` where it is to be computed. Assumes nothing.
use Prim.{Unit, tt}
use Rattle.pointer_rules.proofs.Opened as rules
use Rattle.pointer_state.proofs.Opened as state
use Rattle.pointer.specs.Machine.{fresh_pointer, rows_after, alarm_word, renewed, new_data, invalid, state_after, wait_after, taken_in, pointer_step, pointer_in_range}

unfoldable pub opened : Unit {0}
unfolding
    state.opened rules.opened fresh_pointer rows_after alarm_word renewed new_data invalid state_after wait_after taken_in pointer_step pointer_in_range
opened = tt
