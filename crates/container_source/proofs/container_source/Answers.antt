-- `container_source::container_source` meets its contract: it is `send` with AU-4's shape. Assumes nothing.
use Rattle.container_source.proofs.SourceLaws.{send_as}
use mathlib.Core.Path.{◌≡◌, ap}
use Rattle.shape.specs.Numbers.{numbers}
use Rattle.shape.specs.Shape.{au4}
use Rattle.container_source.proofs.container_source.Goals as goal

pub returns : goal.returns
returns c = let e : numbers c.au4.result ≡ au4 = ap numbers c.au4.ensures in search (send_as (numbers c.au4.result) au4)
