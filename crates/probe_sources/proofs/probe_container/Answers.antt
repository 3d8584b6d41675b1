-- `probe_sources::probe_container` meets its contract: what the container source left. Assumes nothing.
use Rattle.probe_sources.proofs.Packs.{container_probed}
use Rattle.probe_sources.specs.Probe.{given_of}
use Rattle.probe_sources.proofs.probe_container.Goals as goal

pub returns : goal.returns
unfolding given_of
returns c = search container_probed fits 20000
