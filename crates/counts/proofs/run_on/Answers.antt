-- `counts::run_on` meets its contract: one longer, or begun anew. Assumes nothing.
use Rattle.counts.specs.Counts.{run_on}
use Rattle.counts.proofs.run_on.Goals as goal

pub returns-then-same : goal.returns-then-same
unfolding run_on
returns-then-same c = simp (c.if-same.true, c.one_more.ensures)

pub returns-else-same : goal.returns-else-same
unfolding run_on
returns-else-same c = search
