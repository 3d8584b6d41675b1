-- `trace_message::byte` meets its contract: x^8 leaves x^4 + x. Assumes nothing.
use Rattle.std.proofs.Common.{rules}
use Rattle.trace_message.proofs.Answers.{byte_is, byte_low}
use Rattle.trace_message.proofs.byte.Goals as goal

pub returns : goal.returns
returns c = search (byte_is, byte_low, rules)
