-- What a table of refusals says, opened: `unfolding opened` where it is to be computed. Assumes nothing.
use Prim.{Unit, tt}
use Rattle.refusals.specs.Refusals.{trace_number, trace_places, number_of, says, answer_number, answer_places, answer_place, due, rows_at, answer_of, outcome}

unfoldable pub opened : Unit {0}
unfolding trace_number trace_places number_of says answer_number answer_places answer_place due rows_at answer_of outcome
opened = tt
