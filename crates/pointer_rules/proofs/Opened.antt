-- How a pointer word is taken, opened, with all that it rests on: `unfolding opened` where it is to be computed. Assumes nothing.
use Prim.{Unit, tt}
use Rattle.counts.specs.Counts.{run_on}
use Rattle.word.proofs.Opened as word
use Rattle.shape.proofs.Opened as shape
use Rattle.pointer_rules.specs.Rules.{run_after, elsewhere, adjustment, in_normal, in_alarm_or_lost, by_state, taken_as, restarts, adjustment_of}

unfoldable pub opened : Unit {0}
unfolding run_on word.opened shape.opened run_after elsewhere adjustment in_normal in_alarm_or_lost by_state taken_as restarts adjustment_of
opened = tt
