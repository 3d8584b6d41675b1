-- `probe_sources::pack_source` meets its contract: two bytes. Assumes nothing.
use mathlib.Core.Path.{refl}
use native.Mathlib.Omega.{arith}
use Rattle.probe_sources.specs.Probe.{packed_source}
use Rattle.probe_sources.proofs.pack_source.Goals as goal

pub returns : goal.returns
unfolding packed_source
returns c = (refl, omega arith)
