-- `sheet_line::behind_comma` meets its contract. Assumes nothing.
use Rattle.sheet_line.proofs.Fields.{comma_yes, comma_no}
use Rattle.sheet_line.proofs.behind_comma.Goals as goal

pub returns-then-begins : goal.returns-then-begins
returns-then-begins c = search comma_yes

pub returns : goal.returns
returns c = search comma_no
