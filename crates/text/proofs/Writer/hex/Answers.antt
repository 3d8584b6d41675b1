-- `text::Writer::hex` meets its contract: two bytes in a row. Assumes nothing.
use Rattle.text.proofs.Pieces.{hex_wrote}
use Rattle.text.proofs.Writer.hex.Goals as goal

pub returns : goal.returns
returns c = search hex_wrote
