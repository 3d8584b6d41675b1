-- `refusal_line::place` meets its contract: a blank, and then the digits, at most 20. Assumes nothing.
use Rattle.refusal_line.proofs.Refusing.{place_fits, place_within}
use Rattle.refusal_line.proofs.place.Goals as goal

pub decimal-requires : goal.decimal-requires
decimal-requires c = search place_fits

pub returns : goal.returns
returns c = search place_within
