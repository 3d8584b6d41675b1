-- `container_source::g1` meets its contract: the violations, and remote defect where it is asked for. Assumes nothing.
use Rattle.container_source.proofs.OverheadLaws.{g1_remote, g1_clear}
use Rattle.container_source.proofs.g1.Goals as goal

pub returns-then-remote : goal.returns-then-remote
returns-then-remote c = search g1_remote

pub returns : goal.returns
returns c = search g1_clear
