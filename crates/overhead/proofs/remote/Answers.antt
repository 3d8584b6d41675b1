-- `overhead::remote` meets its contract: one bit. Assumes nothing.
use mathlib.Core.Path.{refl}
use Rattle.overhead.specs.Defects.{remote_of}
use Rattle.overhead.proofs.remote.Goals as goal

pub returns : goal.returns
unfolding remote_of
returns c = refl
