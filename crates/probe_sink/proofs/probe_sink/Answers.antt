-- `probe_sink::probe_sink` meets its contract: what the sink left, shown. Assumes nothing.
use Rattle.probe_sink.proofs.Plains.{shows}
use Rattle.probe_sink.proofs.probe_sink.Goals as goal

pub returns : goal.returns
returns c = search shows fits 20000
