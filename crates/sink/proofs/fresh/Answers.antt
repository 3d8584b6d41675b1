-- `sink::fresh` meets its contract: its parts by the calls. Assumes nothing.
use Rattle.sink.specs.Sink.{fresh_sink}
use Rattle.sink.proofs.fresh.Goals as goal

pub returns : goal.returns
unfolding fresh_sink
returns c = simp (c.blank.ensures, c.fresh.ensures)
