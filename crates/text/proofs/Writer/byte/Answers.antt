-- `text::Writer::byte` meets its contract: one element is set. Assumes nothing.
use mathlib.Core.Path.{refl}
use Rattle.text.proofs.Pieces.{byte_written, wrote}
use Rattle.text.proofs.Writer.byte.Goals as goal

pub returns : goal.returns
returns c = wrote refl c.requires (search byte_written)
