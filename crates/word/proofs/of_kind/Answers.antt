-- `word::of_kind` meets its contract. Assumes nothing.
use Rattle.word.proofs.Answers.{of_that_kind, of_other_kind}
use Rattle.word.proofs.of_kind.Goals as goal

pub returns-then-kind-k : goal.returns-then-kind-k
returns-then-kind-k c = search of_that_kind

pub returns-else-kind-k : goal.returns-else-kind-k
returns-else-kind-k c = search of_other_kind
