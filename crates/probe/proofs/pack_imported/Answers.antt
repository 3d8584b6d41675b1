-- `probe::pack_imported` meets its contract: a number for each case. Assumes nothing.
use mathlib.Core.Path.{sym}
use Rattle.probe.proofs.Packed.{packed_is}
use Rattle.probe.proofs.pack_imported.Goals as goal

pub returns-in-Err : goal.returns-in-Err
returns-in-Err c = rw c.in-Err.is (search packed_is)
