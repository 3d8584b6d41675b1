-- `refusals::place_of` meets its contract: the place of each case. Assumes nothing.
use Rattle.refusals.proofs.Cases.{place_as}
use Rattle.refusals.proofs.place_of.Goals as goal

pub returns-in-Trace : goal.returns-in-Trace
returns-in-Trace c = search place_as
