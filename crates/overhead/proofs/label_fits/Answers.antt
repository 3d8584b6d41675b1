-- `overhead::label_fits` meets its contract: the expected label. Assumes nothing.
use mathlib.Core.Path.{refl}
use Rattle.overhead.specs.Labels.{fits}
use Rattle.overhead.proofs.label_fits.Goals as goal

pub returns : goal.returns
unfolding fits
returns c = refl
