-- `bench_asking::export` meets its contract: what is printed is a part of the buffer. Assumes nothing.
use Rattle.exporting.proofs.Answers.{text_there, text_part}
use Rattle.bench_asking.proofs.export.Goals as goal

pub slice_bounds-made-end : goal.slice_bounds-made-end
slice_bounds-made-end g c = search text_there

pub slice_bounds-say_bytes-end-in-Ok : goal.slice_bounds-say_bytes-end-in-Ok
slice_bounds-say_bytes-end-in-Ok g c = search text_part
