-- `probe_sources::pack_unit` meets its contract: offset and wait. Assumes nothing.
use mathlib.Core.Path.{refl}
use native.Mathlib.Omega.{arith}
use Rattle.probe_sources.specs.Probe.{packed_unit}
use Rattle.probe_sources.proofs.pack_unit.Goals as goal

pub returns : goal.returns
unfolding packed_unit
returns c = (refl, omega arith)
