-- `container_source::overhead` meets its contract: what `j1` and `g1` return stands among the bytes given. Assumes nothing.
use Rattle.container_source.proofs.OverheadLaws.{overhead_is}
use Rattle.container_source.proofs.overhead.Goals as goal

pub returns : goal.returns
returns c = search overhead_is
