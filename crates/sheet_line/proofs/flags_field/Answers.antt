-- `sheet_line::flags_field` meets its contract. Assumes nothing.
use Rattle.sheet_line.proofs.Fields.{flags_quoted, flags_unquoted}
use Rattle.sheet_line.proofs.flags_field.Goals as goal

pub returns-then-is_quoted : goal.returns-then-is_quoted
returns-then-is_quoted c = search flags_quoted

pub returns : goal.returns
returns c = search flags_unquoted
