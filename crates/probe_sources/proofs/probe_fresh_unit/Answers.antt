-- `probe_sources::probe_fresh_unit` meets its contract: the fresh state. Assumes nothing.
use Rattle.probe_sources.proofs.Packs.{unit_packed}
use Rattle.probe_sources.proofs.probe_fresh_unit.Goals as goal

pub returns : goal.returns
returns c = search unit_packed
