-- `receiving::take_both` meets its contract: after both turns both are taken in. Assumes nothing.
use mathlib.Core.Path.{refl}
use Rattle.receiving.proofs.Leaves.{last_seen, last_on, both_taken}
use Rattle.receiving.proofs.take_both.Goals as goal

pub loop-o-init : goal.loop-o-init
unfolding last_seen
loop-o-init c = (refl, refl)

pub loop-o-preserved : goal.loop-o-preserved
loop-o-preserved c = last_on _ _ _ _ _ _ _ _ c.loop-o-test.true c.loop-o.invariant.0 c.take-later.ensures

pub returns : goal.returns
returns c = both_taken _ _ _ _ _ _ _ _ _ _ c.unseen-none.ensures c.loop-o-test.false c.loop-o.auto.o-index-end c.loop-o.invariant c.ended_in.ensures
