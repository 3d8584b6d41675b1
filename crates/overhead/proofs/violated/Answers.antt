-- `overhead::violated` meets its contract: with a last parity, and with none. Assumes nothing.
use Rattle.overhead.proofs.Steps.{compared, none_known}
use Rattle.overhead.proofs.violated.Goals as goal

pub returns-then-p : goal.returns-then-p
returns-then-p c = search compared

pub returns-else-p : goal.returns-else-p
returns-else-p c = search none_known
