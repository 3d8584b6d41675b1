-- `sink::tell` meets its contract: the report by the calls. Assumes nothing.
use Rattle.sink.proofs.Feeds.{unit_told}
use Rattle.sink.proofs.tell.Goals as goal

pub returns : goal.returns
returns c = search unit_told fits 20000
