-- `trace_message::bytes` meets its contract: the bytes that are left, after the register so far, give what all give. Assumes nothing.
use Rattle.std.proofs.Common.{rules}
use Rattle.trace_message.proofs.Laws.{bytes_turn, bytes_end}
use Rattle.trace_message.proofs.bytes.Goals as goal

pub loop-b-preserved : goal.loop-b-preserved
loop-b-preserved c = (search rules, search bytes_turn)

pub returns : goal.returns
returns c = (search bytes_end, search rules)
