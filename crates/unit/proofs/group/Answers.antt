-- `unit::group` meets its contract: the others everywhere, and then the first. Assumes nothing.
use Rattle.unit.proofs.Writing.{group_made}
use Rattle.unit.proofs.group.Goals as goal

pub returns : goal.returns
returns c = search group_made
