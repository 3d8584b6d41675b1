-- `settings::label_refused` meets its contract. Assumes nothing.
use Rattle.settings.specs.Settings.{label_refused}
use mathlib.Core.Path.{refl}
use Rattle.settings.proofs.label_refused.Goals as goal

pub returns : goal.returns
unfolding label_refused
returns c = refl
