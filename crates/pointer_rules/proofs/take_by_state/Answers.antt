-- `pointer_rules::take_by_state` meets its contract: a rule for each state. Assumes nothing.
use Rattle.pointer_rules.proofs.Takes.{in_normal_lem, outside_plain, outside_invalid}
use Rattle.pointer_rules.proofs.take_by_state.Goals as goal

pub returns-in-Normal : goal.returns-in-Normal
returns-in-Normal c = search in_normal_lem

pub returns-then-is_good : goal.returns-then-is_good
returns-then-is_good c = search outside_plain

pub returns-else-is_good : goal.returns-else-is_good
returns-else-is_good c = search outside_invalid
