-- `quotes::characters` meets its contract: those before the rest are written. Assumes nothing.
use mathlib.Core.Bool.{false}
use Rattle.std.proofs.Common.{length}
use Rattle.quotes.specs.Quotes.{in_quotes}
use Rattle.quotes.proofs.Inside.{Half}
use Rattle.quotes.proofs.characters.Given as goal

abbrev pub invariant-loop-b : goal.invariant-loop-b
invariant-loop-b l = Half (in_quotes false l.s) l.rest l.initial.w l.w

abbrev pub decreases-loop-b : goal.decreases-loop-b
decreases-loop-b l = length l.rest
