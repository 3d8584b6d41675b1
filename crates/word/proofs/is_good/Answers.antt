-- `word::is_good` meets its contract. Assumes nothing.
use Rattle.word.specs.Word.{good}
use Rattle.word.proofs.is_good.Goals as goal

pub returns-then-of_kind : goal.returns-then-of_kind
unfolding good
returns-then-of_kind c = simp (← c.of_kind.ensures, c.if-of_kind.true, c.value.ensures)

pub returns-else-of_kind : goal.returns-else-of_kind
unfolding good
returns-else-of_kind c = simp (← c.of_kind.ensures, c.if-of_kind.false)
