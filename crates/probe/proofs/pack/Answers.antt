-- `probe::pack` meets its contract: the number, and both places. Assumes nothing.
use Rattle.probe.proofs.Packed.{packed_of}
use Rattle.probe.proofs.pack.Goals as goal

pub returns : goal.returns
returns c = packed_of _ _ _ _ c.from.ensures c.numbers-first.ensures
