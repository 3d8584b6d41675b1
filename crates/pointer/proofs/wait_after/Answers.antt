-- `pointer::wait_after` meets its contract: a wait for each case. Assumes nothing.
use Rattle.pointer.proofs.Cases.{wait_new, wait_adjusted, wait_goes_on, wait_other}
use Rattle.pointer.proofs.wait_after.Goals as goal
use Rattle.pointer.proofs.wait_after.Goals.{in_default-via-in-NewData+else-normal, in_default-via-in_default}

pub returns-in-NewData : goal.returns-in-NewData
returns-in-NewData c = search wait_new

pub returns-in-Adjusted : goal.returns-in-Adjusted
returns-in-Adjusted c = search wait_adjusted

pub returns-in_default : goal.returns-in_default
returns-in_default c =
    elim c.in_default.branch [ in_default-via-in-NewData+else-normal w ↦ search wait_goes_on | in_default-via-in_default w ↦ search wait_other ]
