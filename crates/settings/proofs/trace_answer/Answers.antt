-- `settings::trace_answer` meets its contract: no character before i is wrong, so what is left decides. Assumes nothing.
use Rattle.settings.proofs.Laws.{left_begins, left_below, left_above, left_turn, left_spaces, left_passes}
use Rattle.settings.proofs.trace_answer.Goals as goal

pub loop-i-init : goal.loop-i-init
loop-i-init c = search left_begins

pub returns-then-b-lt32 : goal.returns-then-b-lt32
returns-then-b-lt32 c = search left_below

pub returns-then-is_outside : goal.returns-then-is_outside
returns-then-is_outside c = search left_above

pub loop-i-preserved : goal.loop-i-preserved
loop-i-preserved c = search left_turn

pub returns-then-all_spaces : goal.returns-then-all_spaces
returns-then-all_spaces c = search left_spaces

pub returns : goal.returns
returns c = search left_passes
