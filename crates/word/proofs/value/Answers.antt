-- `word::value` meets its contract. Assumes nothing.
use mathlib.Core.Path.{refl}
use Rattle.word.specs.Word.{value_of}
use Rattle.word.proofs.value.Goals as goal

pub returns : goal.returns
unfolding value_of
returns c = refl
