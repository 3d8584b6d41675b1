-- `importing::lines` meets its contract: the lines counted, with those of the rest, are all. Assumes nothing.
use mathlib.Core.Path.{◌≡◌}
use Prim.Native.Nat.{◌+◌, ◌≤◌}
use lib.ListN.{length}
use Rattle.importing.specs.Import.{lines_of}
use Rattle.importing.proofs.lines.Given as goal

abbrev pub invariant-loop-further : goal.invariant-loop-further
invariant-loop-further l = (l.n + length l.rest ≤ length l.s) × (l.n + length (lines_of l.rest) ≡ length (lines_of l.s))

abbrev pub decreases-loop-further : goal.decreases-loop-further
decreases-loop-further l = length l.rest
