-- `trace_message::good_message` meets its contract: its two tests are the definition's. Assumes nothing.
use Rattle.trace_message.proofs.Answers.{good_is}
use Rattle.trace_message.proofs.good_message.Goals as goal

pub returns : goal.returns
returns c = search good_is
