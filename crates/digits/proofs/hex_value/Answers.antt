-- `digits::hex_value` meets its contract: three ranges. Assumes nothing.
use native.Mathlib.Omega.{arith}
use Rattle.digits.proofs.Laws.{hex_least, hex_digit_lem, hex_capital_least, hex_capital, hex_small_least, hex_small}
use Rattle.digits.proofs.hex_value.Goals as goal

pub overflow_sub-result : goal.overflow_sub-result
overflow_sub-result c = search hex_least

pub returns-in-0-to-57 : goal.returns-in-0-to-57
returns-in-0-to-57 c = hex_digit_lem c.args.b c.requires (omega arith)

pub overflow_sub-result-in-0-to-70 : goal.overflow_sub-result-in-0-to-70
overflow_sub-result-in-0-to-70 c = hex_capital_least c.args.b c.requires (omega arith) (omega arith)

pub returns-in-0-to-70 : goal.returns-in-0-to-70
returns-in-0-to-70 c = hex_capital c.args.b c.requires (omega arith) (omega arith)

pub overflow_sub-result-in_default : goal.overflow_sub-result-in_default
overflow_sub-result-in_default c = hex_small_least c.args.b c.requires (omega arith)

pub returns-in_default : goal.returns-in_default
returns-in_default c = hex_small c.args.b c.requires (omega arith)
