-- `cut::OneLine::complete` meets its contract: the two parts of the done buffer that are lent make the completed container. Assumes nothing.
use Rattle.cut.proofs.Copies.{untouched, lack_within, completed_is}
use native.Mathlib.Omega.{arith}
use lib.ListN.{length-take}
use Rattle.shape.specs.Numbers.{numbers}
use Rattle.cut.proofs.OneLine.complete.Goals as goal

pub returns-then-kept-eq0 : goal.returns-then-kept-eq0
returns-then-kept-eq0 c = search untouched

pub slice_bounds-copy_long-end : goal.slice_bounds-copy_long-end
slice_bounds-copy_long-end c = simp length-take (omega arith)

pub slice_bounds-copy_long-end-3 : goal.slice_bounds-copy_long-end-3
slice_bounds-copy_long-end-3 c = simp length-take (omega arith)

pub copy_long-requires : goal.copy_long-requires
copy_long-requires c = simp length-take (omega arith)

pub slice_bounds-copy_part-end : goal.slice_bounds-copy_part-end
slice_bounds-copy_part-end c = search (lack_within (numbers c.args.self.shape))

pub returns : goal.returns
returns c = search completed_is fits 20000
