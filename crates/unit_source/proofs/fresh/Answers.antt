-- `unit_source::fresh` meets its contract: it is the definition. Assumes nothing.
use mathlib.Core.Path.{refl}
use Rattle.unit_source.proofs.fresh.Goals as goal

pub returns : goal.returns
returns c = refl
