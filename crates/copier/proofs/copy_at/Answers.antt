-- `copier::copy_at` meets its contract: the part from `at` on is lent to `copy`. Assumes nothing.
use Rattle.copier.proofs.Put.{put_lent}
use Rattle.copier.proofs.copy_at.Goals as goal

pub returns : goal.returns
returns c = search put_lent
