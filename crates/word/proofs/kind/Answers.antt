-- `word::kind` meets its contract. Assumes nothing.
use Rattle.word.specs.Word.{kind_of}
use Rattle.word.proofs.kind.Goals as goal

pub returns : goal.returns
unfolding kind_of
returns c = simp c.from.ensures
