-- `copier::copy_part` meets its contract: two copies, one after the other. Assumes nothing.
use native.Mathlib.Omega.{arith}
use lib.ListN.{length-take}
use Rattle.copier.proofs.Parts.{copied_both}
use Rattle.copier.proofs.copy_part.Goals as goal

pub slice_bounds-copy-end : goal.slice_bounds-copy-end
slice_bounds-copy-end c = simp length-take (omega arith)

pub slice_bounds-copy-end-3 : goal.slice_bounds-copy-end-3
slice_bounds-copy-end-3 c = simp length-take (omega arith)

pub copy-requires-2 : goal.copy-requires-2
copy-requires-2 c = simp length-take (omega arith)

pub returns : goal.returns
returns c = search copied_both fits 20000
