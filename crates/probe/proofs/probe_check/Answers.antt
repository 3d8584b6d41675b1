-- `probe::probe_check` meets its contract: the answer and the count are packed as its definition says. Assumes nothing.
use Rattle.probe.proofs.Packed.{check_packed}
use Rattle.probe.proofs.probe_check.Goals as goal

pub returns : goal.returns
returns c = search check_packed
