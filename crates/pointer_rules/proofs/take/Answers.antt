-- `pointer_rules::take` meets its contract: the rules, in their order. Assumes nothing.
use Rattle.pointer_rules.proofs.Takes.{takes_alarm, takes_new_data, takes_resync, takes_there, takes_by_state}
use Rattle.pointer_rules.proofs.take.Goals as goal
use Rattle.pointer_rules.proofs.take.Goals.{else-alike-ge3-via-then-alike-ge3+else-ne, else-alike-ge3-via-else-alike-ge3}

pub returns-then-w-eq65535 : goal.returns-then-w-eq65535
returns-then-w-eq65535 c = search takes_alarm

pub returns-then-is_good : goal.returns-then-is_good
returns-then-is_good c = search takes_new_data

pub returns-then-ne : goal.returns-then-ne
returns-then-ne c = search takes_resync

pub returns-else-alike-ge3 : goal.returns-else-alike-ge3
returns-else-alike-ge3 c =
    elim c.else-alike-ge3.branch [
      | else-alike-ge3-via-then-alike-ge3+else-ne w ↦ search takes_there
      | else-alike-ge3-via-else-alike-ge3 w ↦ search takes_by_state
    ]
