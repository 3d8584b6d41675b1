-- `parity::parity` meets its contract: four parts and the rest, joined, are the whole. Assumes nothing.
use native.Mathlib.Omega.{arith}
use lib.ListN.{length-take, length-drop}
use Rattle.parity.proofs.Laws.{parity_quarters}
use Rattle.parity.proofs.parity.Goals as goal

pub slice_bounds-four-end : goal.slice_bounds-four-end
slice_bounds-four-end c = simp length-take (omega arith)

pub four-parts-requires : goal.four-parts-requires
four-parts-requires c = simp (length-take, length-drop) (omega arith)

pub returns : goal.returns
returns c = search parity_quarters
