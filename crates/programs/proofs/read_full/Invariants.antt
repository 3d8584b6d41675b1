-- `programs::read_full`: what was read stays within the buffer, which keeps its length. Assumes nothing.
use Rattle.std.proofs.Common.{◌≡◌, ◌≤◌, ◌-◌, length}
use Rattle.programs.proofs.read_full.Given as goal

abbrev pub invariant-loop-done : goal.invariant-loop-done
invariant-loop-done g l = (l.done ≤ length l.s) × (length l.s ≡ length l.initial.s)

abbrev pub decreases-loop-done : goal.decreases-loop-done
decreases-loop-done g l = length l.s - l.done
