-- `container_source::j1` meets its contract: the start byte at place 0, and a character at any other. Assumes nothing.
use Rattle.container_source.proofs.OverheadLaws.{j1_start, j1_later}
use Rattle.container_source.proofs.j1.Goals as goal

pub returns-then-place-eq0 : goal.returns-then-place-eq0
returns-then-place-eq0 c = search j1_start

pub returns : goal.returns
returns c = search j1_later
