-- `pointer::state_after` meets its contract: a state for each case. Assumes nothing.
use Rattle.pointer.proofs.Cases.{state_alarm, state_stays, state_new, state_eighth, state_lost, state_plain, state_invalid, state_kept, state_resync, state_adjusted}
use Rattle.pointer.proofs.state_after.Goals as goal

pub returns-then-rows-ge3 : goal.returns-then-rows-ge3
returns-then-rows-ge3 c = search state_alarm

pub returns-else-rows-ge3 : goal.returns-else-rows-ge3
returns-else-rows-ge3 c = search state_stays

pub returns-in-Normal : goal.returns-in-Normal
returns-in-Normal c = search state_new

pub returns-in_default : goal.returns-in_default
returns-in_default c = search state_eighth

pub returns-in_default-2 : goal.returns-in_default-2
returns-in_default-2 c = search state_lost

pub returns-in-Plain : goal.returns-in-Plain
returns-in-Plain c = search state_plain

pub returns-then-rows-ge8 : goal.returns-then-rows-ge8
returns-then-rows-ge8 c = search state_invalid

pub returns-else-rows-ge8 : goal.returns-else-rows-ge8
returns-else-rows-ge8 c = search state_kept

pub returns-in-Resync : goal.returns-in-Resync
returns-in-Resync c = search state_resync

pub returns-in-Resync-2 : goal.returns-in-Resync-2
returns-in-Resync-2 c = search state_adjusted
