-- `bench_script::from_closing` meets its contract: each character leaves less behind it. Assumes nothing.
use Rattle.std.proofs.Common.{◌≤◌, length}
use Rattle.bench_script.proofs.from_closing.Given as goal

abbrev pub invariant-loop-behind : goal.invariant-loop-behind
invariant-loop-behind l = length l.rest ≤ length l.s

abbrev pub decreases-loop-behind : goal.decreases-loop-behind
decreases-loop-behind l = length l.rest
