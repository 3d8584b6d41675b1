-- `sink::sink` meets its contract: it is `feed` with AU-4's shape. Assumes nothing.
use Rattle.sink.proofs.Feeds.{feed_as}
use mathlib.Core.Path.{◌≡◌, ap}
use Rattle.shape.specs.Numbers.{numbers}
use Rattle.shape.specs.Shape.{au4}
use Rattle.sink.proofs.sink.Goals as goal

pub returns : goal.returns
returns c = let e : numbers c.au4.result ≡ au4 = ap numbers c.au4.ensures in search (feed_as (numbers c.au4.result) au4)
