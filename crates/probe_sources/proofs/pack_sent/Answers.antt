-- `probe_sources::pack_sent` meets its contract: the place, the number and the state. Assumes nothing.
use Rattle.probe_sources.proofs.Packs.{sent_packed}
use Rattle.probe_sources.proofs.pack_sent.Goals as goal

pub returns : goal.returns
returns c = search sent_packed
