-- `refusals::number` meets its contract: 0, or the number of the refusal. Assumes nothing.
use Rattle.refusals.specs.Refusals.{answer_number}
use Rattle.refusals.proofs.Wrong.{number_refused}
use Rattle.refusals.proofs.number.Goals as goal

pub returns-in-Ok : goal.returns-in-Ok
unfolding answer_number
returns-in-Ok c = simp c.in-Ok.is

pub returns-in-Err : goal.returns-in-Err
returns-in-Err c = search number_refused
