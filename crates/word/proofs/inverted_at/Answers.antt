-- `word::inverted_at` meets its contract. Assumes nothing.
use Rattle.word.specs.Word.{inverted}
use Rattle.word.proofs.inverted_at.Goals as goal

pub returns : goal.returns
unfolding inverted
returns c = simp c.value.ensures
