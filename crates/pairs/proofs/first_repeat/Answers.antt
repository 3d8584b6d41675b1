-- `pairs::first_repeat` meets its contract: no pair compared so far has one trace, so those still to come decide, and their number is added. Assumes nothing.
use native.Mathlib.Omega.{arith}
use Rattle.pairs.proofs.Scan.{between, left_start, left_later, left_turn, left_hit, left_next, left_end}
use Rattle.pairs.proofs.first_repeat.Goals as goal

pub loop-j-init : goal.loop-j-init
loop-j-init c = (omega arith, search left_start)

pub loop-i-init : goal.loop-i-init
loop-i-init c = (omega arith, search left_later)

pub one_trace-requires : goal.one_trace-requires
one_trace-requires c = search between

pub returns-then-one_trace : goal.returns-then-one_trace
returns-then-one_trace c = search left_hit

pub loop-i-preserved : goal.loop-i-preserved
loop-i-preserved c = (omega arith, search left_turn)

pub loop-j-preserved : goal.loop-j-preserved
loop-j-preserved c = (omega arith, search left_next)

pub returns : goal.returns
returns c = search left_end
