-- `pointer_rules::adjust` meets its contract: the two tests, in their order. Assumes nothing.
use Rattle.pointer_rules.proofs.Takes.{adjusts_up, adjusts_down, adjusts_neither}
use Rattle.pointer_rules.proofs.adjust.Goals as goal

pub returns-then-i-d : goal.returns-then-i-d
returns-then-i-d c = search adjusts_up

pub returns-then-d-i : goal.returns-then-d-i
returns-then-d-i c = search adjusts_down

pub returns-else-d-i : goal.returns-else-d-i
returns-else-d-i c = search adjusts_neither
