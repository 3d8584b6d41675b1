-- `settings::is_outside` meets its contract. Assumes nothing.
use mathlib.Core.Path.{refl}
use Rattle.settings.specs.Settings.{below, above}
use Rattle.settings.proofs.is_outside.Goals as goal

pub returns : goal.returns
unfolding below above
returns c = refl
