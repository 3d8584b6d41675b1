-- `sheet_refusals::line_number` meets its contract: a number for each case. Assumes nothing.
use Rattle.sheet_line.specs.Refusals.{line_number}
use Rattle.sheet_refusals.proofs.line_number.Goals as goal

pub returns-in-Malformed : goal.returns-in-Malformed
unfolding line_number
returns-in-Malformed c = simp c.in-Malformed.is

pub returns-in-Unquoted : goal.returns-in-Unquoted
unfolding line_number
returns-in-Unquoted c = simp c.in-Unquoted.is

pub returns-in-Long : goal.returns-in-Long
unfolding line_number
returns-in-Long c = simp c.in-Long.is
