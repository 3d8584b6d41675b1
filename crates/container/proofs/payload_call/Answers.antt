-- `container::payload_call` meets its contract: it is `hand` with AU-4's shape. Assumes nothing.
use Rattle.container.proofs.PayloadLaws.{hand_as}
use mathlib.Core.Path.{◌≡◌, ap}
use Rattle.shape.specs.Numbers.{numbers}
use Rattle.shape.specs.Shape.{au4}
use Rattle.container.proofs.payload_call.Goals as goal

pub returns : goal.returns
returns c = let e : numbers c.au4.result ≡ au4 = ap numbers c.au4.ensures in search (hand_as (numbers c.au4.result) au4)
