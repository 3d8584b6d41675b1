-- `importing::Sheet::records` meets its contract: the records of the lines before the rest are written. Assumes nothing.
use lib.ListN.{length}
use Rattle.importing.proofs.Making.{Half}
use Rattle.importing.proofs.Sheet.records.Given as goal

abbrev pub invariant-loop-line : goal.invariant-loop-line
invariant-loop-line l = Half l.self.bytes.now l.rest l.initial.w l.w

abbrev pub decreases-loop-line : goal.decreases-loop-line
decreases-loop-line l = length l.rest
