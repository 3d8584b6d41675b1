-- `unit::pour` meets its contract: two parts, lent one after the other. Assumes nothing.
use Rattle.unit.proofs.Writing.{second_long, second_fits, pour_is}
use Rattle.unit.proofs.pour.Goals as goal

pub slice_bounds-copy_part-end-3 : goal.slice_bounds-copy_part-end-3
slice_bounds-copy_part-end-3 c = search second_long fits 20000

pub copy_part-requires-2 : goal.copy_part-requires-2
copy_part-requires-2 c = search second_fits fits 20000

pub returns : goal.returns
returns c = search pour_is fits 20000
