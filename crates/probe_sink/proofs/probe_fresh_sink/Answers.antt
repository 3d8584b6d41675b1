-- `probe_sink::probe_fresh_sink` meets its contract: the fresh state, shown. Assumes nothing.
use Rattle.probe_sink.proofs.Plains.{fresh_is}
use Rattle.probe_sink.proofs.probe_fresh_sink.Goals as goal

pub returns : goal.returns
returns c = search fresh_is fits 20000
