-- `probe_sources::probe_fresh_container` meets its contract: the fresh state. Assumes nothing.
use Rattle.probe_sources.proofs.Packs.{source_packed}
use Rattle.probe_sources.proofs.probe_fresh_container.Goals as goal

pub returns : goal.returns
returns c = search source_packed
