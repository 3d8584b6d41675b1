-- `probe_sink::probe_handed` meets its contract: the container's bytes written, or nothing. Assumes nothing.
use mathlib.Core.Path.{◌≡◌, ap}
use Rattle.shape.specs.Numbers.{numbers}
use Rattle.shape.specs.Shape.{au4}
use Rattle.probe_sink.proofs.Written.{hands_none, hands_all}
use Rattle.probe_sink.proofs.probe_handed.Goals as goal

pub returns-then-out-container : goal.returns-then-out-container
returns-then-out-container c = let e : numbers c.au4-shape.result ≡ au4 = ap numbers c.au4-shape.ensures in search (hands_none (numbers c.au4-shape.result))

pub returns : goal.returns
returns c = let e : numbers c.au4-shape.result ≡ au4 = ap numbers c.au4-shape.ensures in search (hands_all (numbers c.au4-shape.result))
