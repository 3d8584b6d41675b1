-- `sink::take_unit` meets its contract: by whether the unit ends normal. Assumes nothing.
use Rattle.sink.proofs.Feeds.{receivable, leaves_normal, leaves_silence}
use Rattle.shape.specs.Numbers.{numbers}
use Rattle.sink.proofs.take_unit.Goals as goal

pub receive-requires : goal.receive-requires
receive-requires c = search (receivable (numbers c.args.shape))

pub returns-then-normal : goal.returns-then-normal
returns-then-normal c = search (leaves_normal (numbers c.args.shape))

pub returns : goal.returns
returns c = search (leaves_silence (numbers c.args.shape))
