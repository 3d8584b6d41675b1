-- `parity::four` meets its contract: what is gathered, with the parity of what is left of the four parts, is the parity of all. Assumes nothing.
use Rattle.parity.proofs.Laws.{four_start, four_turn, four_end}
use Rattle.parity.proofs.four.Goals as goal

pub loop-k-init : goal.loop-k-init
loop-k-init c = search four_start

pub loop-k-preserved : goal.loop-k-preserved
loop-k-preserved c = search four_turn

pub returns : goal.returns
returns c = search four_end
