-- `sheet_line::answer` meets its contract: the first test that says so decides. Assumes nothing.
use Rattle.sheet_line.proofs.Ways.{wrong_malformed, wrong_unquoted, wrong_long, wrong_nothing}
use Rattle.sheet_line.proofs.answer.Goals as goal

pub returns-then-not-ended-well_formed : goal.returns-then-not-ended-well_formed
returns-then-not-ended-well_formed c = search wrong_malformed

pub returns-then-not-is_quoted : goal.returns-then-not-is_quoted
returns-then-not-is_quoted c = search wrong_unquoted

pub returns-then-count-gt15 : goal.returns-then-count-gt15
returns-then-count-gt15 c = search wrong_long

pub returns : goal.returns
returns c = search wrong_nothing
