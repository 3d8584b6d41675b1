-- `probe_sources::probe_unit` meets its contract: what the unit source left. Assumes nothing.
use Rattle.probe_sources.proofs.Packs.{unit_probed}
use Rattle.probe_sources.proofs.probe_unit.Goals as goal

pub returns : goal.returns
returns c = search unit_probed fits 20000
