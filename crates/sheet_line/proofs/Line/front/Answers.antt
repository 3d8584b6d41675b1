-- `sheet_line::Line::front` meets its contract: four pieces in a row. Assumes nothing.
use Rattle.sheet_line.proofs.Writing.{value_few, value_digits, value_small, label_asked, front_written}
use Prim.Native.Nat.{◌<◌}
use native.Mathlib.Omega.{arith}
use Rattle.sheet_line.proofs.Line.front.Goals as goal

pub value-v-requires : goal.value-v-requires
value-v-requires c = (search value_few, search value_digits)

pub overflow_cast-v : goal.overflow_cast-v
overflow_cast-v c = let h : c.value-v.result < 10000 = search value_small in omega arith

pub label-requires : goal.label-requires
label-requires c = search label_asked

pub returns : goal.returns
returns c = search front_written fits 20000
