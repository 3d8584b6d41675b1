-- `cut::OneLine::next_place` meets its contract: what the held bytes lack, or nothing. Assumes nothing.
use Rattle.laws.proofs.Tests.{tests}
use Rattle.cut.specs.Cut.{next_of}
use Rattle.cut.proofs.OneLine.next_place.Goals as goal

pub returns-then-self-gt0 : goal.returns-then-self-gt0
unfolding next_of
returns-then-self-gt0 c = search tests

pub returns : goal.returns
unfolding next_of
returns c = search tests
