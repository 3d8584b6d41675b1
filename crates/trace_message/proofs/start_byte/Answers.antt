-- `trace_message::start_byte` meets its contract: what the register holds after 80, the characters and seven bits 0 is the check. Assumes nothing.
use Rattle.trace_message.proofs.Answers.{start_is}
use Rattle.trace_message.proofs.start_byte.Goals as goal

pub returns : goal.returns
returns c = search start_is
