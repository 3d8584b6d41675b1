-- `quotes::count` meets its contract: those counted, with those of the rest, are all. Assumes nothing.
use mathlib.Core.Path.{ap}
use native.Mathlib.Omega.{arith}
use lib.ListN.{length}
use Rattle.quotes.proofs.Laws.{said_in, said_less, closes_in}
use Rattle.quotes.proofs.count.Goals as goal

pub loop-further-smaller : goal.loop-further-smaller
loop-further-smaller c = omega (arith, said_less _ _ _ c.in-Some.ensures)

pub loop-further-preserved : goal.loop-further-preserved
loop-further-preserved c = (omega (arith, said_less _ _ _ c.in-Some.ensures), omega (arith, ap length (said_in _ _ _ c.in-Some.ensures)))

pub returns : goal.returns
returns c = omega (arith, ap length (closes_in c.loop-further.rest.now c.in_default.ensures))
