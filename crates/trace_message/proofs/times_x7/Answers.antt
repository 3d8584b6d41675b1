-- `trace_message::times_x7` meets its contract: x^7 leaves x^3 + 1. Assumes nothing.
use Rattle.trace_message.proofs.Answers.{seven_is, seven_low}
use Rattle.trace_message.proofs.times_x7.Goals as goal

pub returns : goal.returns
returns c = search (seven_is, seven_low)
