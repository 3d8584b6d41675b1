-- `quotes::count` meets its contract: those counted, with those of the rest, are all. Assumes nothing.
use mathlib.Core.Bool.{false}
use Rattle.std.proofs.Common.{◌≡◌, ◌+◌, ◌≤◌, length}
use Rattle.quotes.specs.Quotes.{in_quotes}
use Rattle.quotes.proofs.count.Given as goal

abbrev pub invariant-loop-further : goal.invariant-loop-further
invariant-loop-further l = (l.n + length l.rest ≤ length l.s) × (l.n + length (in_quotes false l.rest) ≡ length (in_quotes false l.s))

abbrev pub decreases-loop-further : goal.decreases-loop-further
decreases-loop-further l = length l.rest
