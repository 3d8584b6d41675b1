-- `quotes::behind` meets its contract: what is behind the rest is behind the whole. Assumes nothing.
use mathlib.Core.Bool.{false}
use Rattle.std.proofs.Common.{◌≡◌, length}
use Rattle.quotes.specs.Quotes.{behind_quotes}
use Rattle.quotes.proofs.behind.Given as goal

abbrev pub invariant-loop-further : goal.invariant-loop-further
invariant-loop-further l = behind_quotes false l.rest ≡ behind_quotes false l.s

abbrev pub decreases-loop-further : goal.decreases-loop-further
decreases-loop-further l = length l.rest
