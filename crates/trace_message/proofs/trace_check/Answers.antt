-- `trace_message::trace_check` meets its contract: of 16 bytes the first is the start byte and the rest are the characters. Assumes nothing.
use Rattle.trace_message.proofs.Laws.{trace_sixteen, trace_other}
use Rattle.trace_message.proofs.trace_check.Goals as goal

pub returns-then-s-ne16 : goal.returns-then-s-ne16
returns-then-s-ne16 c = search trace_other

pub returns : goal.returns
returns c = search trace_sixteen
