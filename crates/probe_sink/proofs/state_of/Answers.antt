-- `probe_sink::state_of` meets its contract: field by field. Assumes nothing.
use Rattle.probe_sink.proofs.Plains.{state_is}
use Rattle.probe_sink.proofs.state_of.Goals as goal

pub returns : goal.returns
returns c = search state_is fits 20000
