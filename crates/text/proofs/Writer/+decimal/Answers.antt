-- `text::Writer::decimal` meets its contract: the digits before the last, and the last. Assumes nothing.
use Rattle.std.proofs.Common.{arith}
use Rattle.text.proofs.Pieces.{digit_fits, digit_wrote, tenth_fits, last_fits, more_wrote}
use Rattle.text.proofs.Writer.+decimal.Goals as goal

pub byte-requires : goal.byte-requires
byte-requires t c = search digit_fits

pub returns-then-n-lt10 : goal.returns-then-n-lt10
returns-then-n-lt10 t c = search digit_wrote

pub decimal-requires : goal.decimal-requires
decimal-requires t c = (omega arith, search tenth_fits)

pub byte-requires-2 : goal.byte-requires-2
byte-requires-2 t c = search last_fits

pub returns : goal.returns
returns t c = search more_wrote
