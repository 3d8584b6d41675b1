-- `pointer::in_range` meets its contract: it is the definition. Assumes nothing.
use Rattle.pointer.proofs.Cases.{ranges_tested}
use Rattle.pointer.proofs.in_range.Goals as goal

pub returns : goal.returns
returns c = search ranges_tested
