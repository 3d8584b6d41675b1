-- `unit::header` meets its contract: two groups and the zeros, lent one after the other. Assumes nothing.
use native.Mathlib.Omega.{arith}
use lib.ListN.{length-take}
use Rattle.unit.proofs.Writing.{header_made}
use Rattle.unit.proofs.header.Goals as goal

pub slice_bounds-group-end-2 : goal.slice_bounds-group-end-2
slice_bounds-group-end-2 c = simp length-take (omega arith)

pub group-requires : goal.group-requires
group-requires c = simp length-take (omega arith)

pub returns : goal.returns
returns c = search header_made fits 20000
