-- `bench_asking::import` meets its contract: what is printed is a part of the buffer. Assumes nothing.
use Rattle.std.proofs.Common.{◌*◌, ◌≤◌, arith}
use Rattle.importing.proofs.Answers.{good_fits, good_there, good_part}
use Rattle.bench_asking.proofs.import.Goals as goal

pub overflow_mul-n : goal.overflow_mul-n
overflow_mul-n g c = let h : 21 * c.in-Ok.k ≤ 10752 = search good_fits in omega arith

pub slice_bounds-made-end : goal.slice_bounds-made-end
slice_bounds-made-end g c = search good_there

pub slice_bounds-say_bytes-end-in-Ok : goal.slice_bounds-say_bytes-end-in-Ok
slice_bounds-say_bytes-end-in-Ok g c = search good_part
