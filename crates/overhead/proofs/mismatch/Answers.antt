-- `overhead::mismatch` meets its contract: accepted, and not one to expect. Assumes nothing.
use Rattle.overhead.specs.Labels.{plm_of}
use Rattle.overhead.proofs.mismatch.Goals as goal

pub returns-then-a : goal.returns-then-a
unfolding plm_of
returns-then-a c = simp (c.if-a.true, c.label_fits.ensures)

pub returns-else-a : goal.returns-else-a
unfolding plm_of
returns-else-a c = simp c.if-a.false
