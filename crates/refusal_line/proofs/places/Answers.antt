-- `refusal_line::places` meets its contract: no place, one or two. Assumes nothing.
use Rattle.refusal_line.proofs.Refusing.{places_none, places_one, places_two}
use Rattle.refusal_line.proofs.places.Goals as goal

pub returns-in-Nowhere : goal.returns-in-Nowhere
returns-in-Nowhere c = search places_none

pub returns-in-One : goal.returns-in-One
returns-in-One c = search places_one

pub returns-in-Two : goal.returns-in-Two
returns-in-Two c = search places_two
