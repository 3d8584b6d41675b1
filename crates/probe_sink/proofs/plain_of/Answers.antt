-- `probe_sink::plain_of` meets its contract: field by field. Assumes nothing.
use Rattle.probe_sink.proofs.Plains.{plain_is}
use Rattle.probe_sink.proofs.plain_of.Goals as goal

pub returns : goal.returns
returns c = search plain_is fits 20000
