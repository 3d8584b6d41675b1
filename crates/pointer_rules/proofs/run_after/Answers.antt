-- `pointer_rules::run_after` meets its contract: one more of the run, or none. Assumes nothing.
use Rattle.pointer_rules.proofs.Takes.{run_goes_on, run_ends}
use Rattle.pointer_rules.proofs.run_after.Goals as goal

pub returns-then-is_good : goal.returns-then-is_good
returns-then-is_good c = search run_goes_on

pub returns-else-is_good : goal.returns-else-is_good
returns-else-is_good c = search run_ends
