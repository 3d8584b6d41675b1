-- `refusals::place` meets its contract: none, or that of the refusal. Assumes nothing.
use Rattle.refusals.specs.Refusals.{answer_places, answer_place}
use Rattle.refusals.proofs.Cases.{answer_place_as}
use Rattle.refusals.proofs.place.Goals as goal

pub returns-in-Ok : goal.returns-in-Ok
unfolding answer_places answer_place
returns-in-Ok c = search answer_place_as

pub returns-in-Err : goal.returns-in-Err
unfolding answer_places answer_place
returns-in-Err c = search answer_place_as
