-- `unit_source::unit_source` meets its contract: the shape is that of AU-4. Assumes nothing.
use Rattle.unit_source.proofs.Answers.{makes_at}
use mathlib.Core.Path.{◌≡◌, ap}
use Rattle.shape.specs.Numbers.{numbers}
use Rattle.shape.specs.Shape.{au4}
use Rattle.unit_source.proofs.unit_source.Goals as goal

pub returns : goal.returns
returns c = let e : numbers c.au4.result ≡ au4 = ap numbers c.au4.ensures in search (makes_at (numbers c.au4.result) au4)
