-- `importing::Sheet::made` meets its contract: what was made is the part of the buffer that was written. Assumes nothing.
use Rattle.std.proofs.lemmas.Result.{err_from_is_err_and}
use Rattle.importing.proofs.Answers.{made_fits, made_length, made_good, made_refused, copy_room}
use Rattle.importing.proofs.Sheet.made.Goals as goal

pub slice_bounds-b-end : goal.slice_bounds-b-end
slice_bounds-b-end c = search made_fits

pub slice_bounds-check-end : goal.slice_bounds-check-end
slice_bounds-check-end c = search made_length

pub slice_bounds-b-end-2 : goal.slice_bounds-b-end-2
slice_bounds-b-end-2 c = search made_fits

pub slice_bounds-copy_at-end : goal.slice_bounds-copy_at-end
slice_bounds-copy_at-end c = search made_length

pub copy_at-requires : goal.copy_at-requires
copy_at-requires c = search copy_room

pub returns-in_err-k : goal.returns-in_err-k
returns-in_err-k c =
    let p = err_from_is_err_and c.from_residual.result c.from_residual.ensures.1 in
    rw (p.1, p.2) (search (made_refused, c.in_err-k.was))

pub returns : goal.returns
returns c = search (made_good, c.in_ok-k.was)
