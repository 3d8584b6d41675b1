-- `word::ss` meets its contract. Assumes nothing.
use mathlib.Core.Path.{refl}
use Rattle.word.specs.Word.{ss_of}
use Rattle.word.proofs.ss.Goals as goal

pub returns : goal.returns
unfolding ss_of
returns c = refl
