-- `pointer::fresh` meets its contract: it is the definition. Assumes nothing.
use mathlib.Core.Path.{refl}
use Rattle.pointer.specs.Machine.{fresh_pointer}
use Rattle.pointer.proofs.fresh.Goals as goal

pub returns : goal.returns
unfolding fresh_pointer
returns c = refl
