-- `settings::flags_of` meets its contract: bit by bit. Assumes nothing.
use mathlib.Core.Path.{refl}
use Rattle.settings.specs.Flags.{flags_of}
use Rattle.settings.proofs.flags_of.Goals as goal

pub returns : goal.returns
unfolding flags_of
returns c = refl
