-- `catalogue::find` meets its contract: no record before m has the number, so those from m on decide. Assumes nothing.
use Rattle.catalogue.proofs.Scan.{find_start, find_hit, find_turn, find_end}
use Rattle.catalogue.proofs.find.Goals as goal

pub loop-m-init : goal.loop-m-init
loop-m-init c = search find_start

pub returns-then-from-number : goal.returns-then-from-number
returns-then-from-number c = search find_hit

pub loop-m-preserved : goal.loop-m-preserved
loop-m-preserved c = search (find_turn, c.if-from-number.false)

pub returns : goal.returns
returns c = search find_end
