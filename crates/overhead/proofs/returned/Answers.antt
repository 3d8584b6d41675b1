-- `overhead::returned` meets its contract: 9 to 15 read as 0. Assumes nothing.
use Rattle.laws.proofs.Tests.{tests}
use Rattle.overhead.specs.Defects.{returned_of}
use Rattle.overhead.proofs.returned.Goals as goal

pub returns-then-n-lt9 : goal.returns-then-n-lt9
unfolding returned_of
returns-then-n-lt9 c = search tests

pub returns-else-n-lt9 : goal.returns-else-n-lt9
unfolding returned_of
returns-else-n-lt9 c = search tests
