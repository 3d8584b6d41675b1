-- `probe::pack_refusal` meets its contract: its number and its places. Assumes nothing.
use Rattle.probe.proofs.Packed.{packed_is}
use Rattle.probe.proofs.pack_refusal.Goals as goal

pub returns : goal.returns
returns c = search packed_is
