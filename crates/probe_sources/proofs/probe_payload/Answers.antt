-- `probe_sources::probe_payload` meets its contract: what the payload call left. Assumes nothing.
use Rattle.probe_sources.proofs.Packs.{payload_probed}
use Rattle.probe_sources.proofs.probe_payload.Goals as goal

pub returns : goal.returns
returns c = search payload_probed
