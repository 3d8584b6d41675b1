-- `probe_sources::pack_made` meets its contract: the count or the number, and the state. Assumes nothing.
use Rattle.probe_sources.proofs.Packs.{made_packed, refused_packed}
use Rattle.probe_sources.proofs.pack_made.Goals as goal

pub returns-in-Ok : goal.returns-in-Ok
returns-in-Ok c = search made_packed

pub returns-in-Err : goal.returns-in-Err
returns-in-Err c = search refused_packed
