-- `receiving::see_inside` meets its contract: the part lies in the unit, and is seen. Assumes nothing.
use Rattle.receiving.proofs.Leaves.{end_counted, end_within, part_long, seen_part}
use Rattle.shape.specs.Numbers.{numbers}
use Rattle.receiving.proofs.see_inside.Goals as goal

pub overflow_add-end : goal.overflow_add-end
overflow_add-end c = search (end_counted (numbers c.args.shape))

pub slice_bounds-see-end : goal.slice_bounds-see-end
slice_bounds-see-end c = search (end_within (numbers c.args.shape))

pub see-requires : goal.see-requires
see-requires c = let a = c in
    part_long (numbers a.args.shape) a.args.c a.args.unit.now a.requires c.if-c.true

pub returns-then-c : goal.returns-then-c
returns-then-c c = search (seen_part (numbers c.args.shape))
