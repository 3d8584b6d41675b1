-- `catalogue::length_refused` meets its contract. Assumes nothing.
use Rattle.catalogue.specs.Catalogue.{length_refused}
use mathlib.Core.Path.{refl}
use Rattle.catalogue.proofs.length_refused.Goals as goal

pub returns : goal.returns
unfolding length_refused
returns c = refl
