-- The number of what is wrong with a line, of ask 1 of 02: "15 line malformed or too long, 16 trace unquoted, 17 trace longer than 15".
use Rattle.std.specs.Prelude.{ℕ}
use Rattle.sheet_line.specs.declared.LineFault.{LineFault}
use Rattle.sheet_line.specs.declared.LineFault.TheVariants.{Malformed, Unquoted, Long}

unfoldable pub line_number : LineFault → ℕ
line_number Malformed = 15
line_number Unquoted = 16
line_number Long = 17
