-- `refusal_line::write` meets its contract: three pieces in a row. Assumes nothing.
use Rattle.refusal_line.proofs.Refusing.{number_fits, places_fit, end_fits, refusal_written}
use Rattle.refusal_line.proofs.write.Goals as goal

pub decimal-requires : goal.decimal-requires
decimal-requires c = search number_fits

pub places-requires : goal.places-requires
places-requires c = search places_fit

pub byte-requires : goal.byte-requires
byte-requires c = search end_fits

pub returns : goal.returns
returns c = search refusal_written
