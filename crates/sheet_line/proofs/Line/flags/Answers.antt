-- `sheet_line::Line::flags` meets its contract: two digits are below 100. Assumes nothing.
use native.Mathlib.Omega.{arith}
use Rattle.sheet_line.proofs.Writing.{flags_few, flags_digits, flags_small, flags_of}
use Prim.Native.Nat.{◌<◌}
use Rattle.sheet_line.proofs.Line.flags.Goals as goal

pub value-requires : goal.value-requires
value-requires c = (search flags_few, search flags_digits)

pub overflow_cast-result : goal.overflow_cast-result
overflow_cast-result c = let h : c.value.result < 100 = search flags_small in omega arith

pub returns : goal.returns
returns c = search flags_of
