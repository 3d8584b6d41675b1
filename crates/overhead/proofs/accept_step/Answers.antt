-- `overhead::accept_step` meets its contract: accepted after five. Assumes nothing.
use Rattle.overhead.proofs.Steps.{accepts, accepts_not_yet}
use Rattle.overhead.proofs.accept_step.Goals as goal

pub returns-then-run-ge5 : goal.returns-then-run-ge5
returns-then-run-ge5 c = search accepts

pub returns : goal.returns
returns c = search accepts_not_yet
