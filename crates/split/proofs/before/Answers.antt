-- `split::before` meets its contract. Assumes nothing.
use Rattle.split.proofs.Laws.{before_part}
use Rattle.split.proofs.before.Goals as goal

pub returns : goal.returns
returns c = search before_part
