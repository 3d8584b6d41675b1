-- `cut::begin_place` meets its contract: after a container that ends inside, or where one begins. Assumes nothing.
use Rattle.laws.proofs.Tests.{tests}
use Rattle.cut.specs.Cut.{begin_of, inside_of}
use Rattle.cut.proofs.begin_place.Goals as goal

pub returns-then-next-shape : goal.returns-then-next-shape
unfolding begin_of inside_of
returns-then-next-shape c = search tests

pub returns : goal.returns
unfolding begin_of inside_of
returns c = search tests
