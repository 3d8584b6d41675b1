-- `receiving::watch_both` meets its contract: what is seen of each, taken in. Assumes nothing.
use Rattle.receiving.proofs.Leaves.{done_seen, both_watched}
use Rattle.shape.specs.Numbers.{numbers}
use Rattle.receiving.proofs.watch_both.Goals as goal

pub see_completed-completed-requires : goal.see_completed-completed-requires
see_completed-completed-requires c = search (done_seen (numbers c.args.shape))

pub returns : goal.returns
returns c = search (both_watched (numbers c.args.shape)) fits 20000
