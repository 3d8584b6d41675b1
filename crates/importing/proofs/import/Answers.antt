-- `importing::import` meets its contract: the number of lines, then line by line, then the catalogue. Assumes nothing.
use Rattle.std.proofs.lemmas.Result.{err_from_is_err_and}
use Rattle.importing.proofs.Answers.{import_many, import_fault, import_made}
use Rattle.importing.proofs.import.Goals as goal

pub returns-then-lines-gt-MOST : goal.returns-then-lines-gt-MOST
returns-then-lines-gt-MOST c = search import_many

pub returns-in_err-first_fault : goal.returns-in_err-first_fault
returns-in_err-first_fault c =
    let p = err_from_is_err_and c.from_residual.result c.from_residual.ensures.1 in
    rw (p.1, p.2) (search (import_fault, c.in_err-first_fault.was))

pub returns : goal.returns
returns c = search (import_made, c.in_ok-first_fault.was)
