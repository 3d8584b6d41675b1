-- `importing::first_fault` meets its contract: nothing is wrong with the lines before the rest, so the others decide. Assumes nothing.
use mathlib.Core.Path.{◌≡◌}
use Prim.Native.Nat.{◌+◌, ◌≤◌}
use lib.ListN.{length}
use Rattle.importing.specs.Import.{lines_of, faults_from, first_of}
use Rattle.importing.proofs.first_fault.Given as goal

abbrev pub invariant-loop-line : goal.invariant-loop-line
invariant-loop-line l = (l.k + length l.rest ≤ length l.s) × (first_of (faults_from l.k (lines_of l.rest)) ≡ first_of (faults_from 0 (lines_of l.s)))

abbrev pub decreases-loop-line : goal.decreases-loop-line
decreases-loop-line l = length l.rest
