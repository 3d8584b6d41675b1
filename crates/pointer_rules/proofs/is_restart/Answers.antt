-- `pointer_rules::is_restart` meets its contract. Assumes nothing.
use Rattle.pointer_rules.proofs.Takes.{a_restart, no_restart}
use Rattle.pointer_rules.proofs.is_restart.Goals as goal

pub returns-in-NewData : goal.returns-in-NewData
returns-in-NewData c = search a_restart

pub returns-in_default : goal.returns-in_default
returns-in_default c = search no_restart
