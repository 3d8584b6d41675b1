-- `split::behind` meets its contract. Assumes nothing.
use Rattle.split.proofs.Laws.{behind_part}
use Rattle.split.proofs.behind.Goals as goal

pub returns : goal.returns
returns c = search behind_part
