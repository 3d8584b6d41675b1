-- `probe::probe_lookup` meets its contract: the answer is packed, and the characters are those that lookup found. Assumes nothing.
use Rattle.probe.proofs.Packed.{lookup_packed, lookup_characters}
use Rattle.probe.proofs.probe_lookup.Goals as goal

pub returns : goal.returns
returns c = (search lookup_packed, search lookup_characters)
