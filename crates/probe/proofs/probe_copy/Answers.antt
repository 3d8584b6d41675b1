-- `probe::probe_copy` meets its contract: where the lengths differ nothing is written, and no is answered. Assumes nothing.
use borrow.Author.Tests.{ne_eqb}
use Rattle.probe.proofs.Packed.{copied_yes, copied_all}
use Rattle.probe.proofs.probe_copy.Goals as goal

pub returns-then-src-dst : goal.returns-then-src-dst
returns-then-src-dst c = (simp (ne_eqb _ _ c.if-src-dst.true), simp (ne_eqb _ _ c.if-src-dst.true))

pub returns : goal.returns
returns c = (search copied_yes, search copied_all)
