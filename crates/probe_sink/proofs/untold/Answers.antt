-- `probe_sink::untold` meets its contract: nothing is told. Assumes nothing.
use Rattle.probe_sink.proofs.Plains.{told_none}
use Rattle.probe_sink.proofs.untold.Goals as goal

pub returns : goal.returns
returns c = search told_none fits 20000
