-- `unit_source::out_of_range` meets its contract: it is the definition. Assumes nothing.
use mathlib.Core.Path.{refl}
use Rattle.unit_source.specs.Source.{source_out_of_range}
use Rattle.unit_source.proofs.out_of_range.Goals as goal

pub returns : goal.returns
unfolding source_out_of_range
returns c = refl
