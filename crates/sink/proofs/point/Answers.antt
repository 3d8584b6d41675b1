-- `sink::point` meets its contract: by the word and the step. Assumes nothing.
use Rattle.sink.proofs.Feeds.{point_is}
use Rattle.shape.specs.Numbers.{numbers}
use Rattle.sink.proofs.point.Goals as goal

pub returns : goal.returns
returns c = search (point_is (numbers c.args.shape))
