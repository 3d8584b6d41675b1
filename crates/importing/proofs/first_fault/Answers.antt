-- `importing::first_fault` meets its contract: nothing is wrong with the lines before the rest, so the others decide. Assumes nothing.
use native.Mathlib.Omega.{arith}
use Rattle.importing.proofs.Faulty.{fault_hit, fault_turn, fault_end}
use Rattle.importing.proofs.first_fault.Goals as goal

pub returns-in-Err : goal.returns-in-Err
returns-in-Err c = search (fault_hit, c.in-Some.ensures)

pub loop-line-preserved : goal.loop-line-preserved
loop-line-preserved c = (omega (arith, c.in-Some.ensures.less), search (fault_turn, c.in-Some.ensures))

pub returns : goal.returns
returns c = search (fault_end, c.in_default.ensures)
