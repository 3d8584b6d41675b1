-- `probe_sink::show_as` meets its contract: field by field. Assumes nothing.
use Rattle.probe_sink.proofs.Plains.{shown_is}
use Rattle.probe_sink.proofs.show_as.Goals as goal

pub returns : goal.returns
returns c = search shown_is fits 20000
