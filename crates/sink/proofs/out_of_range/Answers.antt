-- `sink::out_of_range` meets its contract: by its three tests. Assumes nothing.
use Rattle.sink.proofs.Refuses.{out_pointer, out_monitor, low_offset, out_held}
use Rattle.shape.specs.Numbers.{numbers}
use Rattle.sink.proofs.out_of_range.Goals as goal

pub returns-then-not-in_range : goal.returns-then-not-in_range
returns-then-not-in_range c = search out_pointer

pub returns-then-not-in_range-2 : goal.returns-then-not-in_range-2
returns-then-not-in_range-2 c = search out_monitor

pub held_count-count-requires : goal.held_count-count-requires
held_count-count-requires c = search (low_offset (numbers c.args.shape))

pub returns : goal.returns
returns c = search out_held
