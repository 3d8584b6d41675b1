-- `cut::keep` meets its contract: the unit's end, and the bytes after it. Assumes nothing.
use native.Mathlib.Omega.{arith}
use lib.ListN.{length-take, length-drop}
use Rattle.cut.proofs.Copies.{kept_is}
use Rattle.cut.proofs.keep.Goals as goal

pub slice_bounds-copy_long-end-3 : goal.slice_bounds-copy_long-end-3
slice_bounds-copy_long-end-3 c = simp length-take (omega arith)

pub copy_long-requires : goal.copy_long-requires
copy_long-requires c = simp (length-take, length-drop) (omega arith)

pub returns : goal.returns
returns c = search kept_is
