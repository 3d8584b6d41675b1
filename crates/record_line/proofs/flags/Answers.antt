-- `record_line::flags` meets its contract: a byte has at most three digits. Assumes nothing.
use native.Mathlib.Omega.{arith}
use Rattle.text.proofs.Within.{byte_short}
use Rattle.record_line.proofs.flags.Goals as goal

pub returns : goal.returns
returns c = byte_short _ _ _ c.from.ensures c.flags.ensures (omega (arith, c.from.ensures, c.flags.type_inv))
