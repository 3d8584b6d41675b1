-- A run of equal ones is as long as there were equal ones, up to the end of its range. Assumes nothing.
use mathlib.Core.Path.{◌≡◌}
use mathlib.Core.Bool.{Bool, true}
use Prim.Native.Nat.{ℕ, zero, suc, ◌+◌, ◌<◌, ◌≤◌, min}
use native.Mathlib.Omega.{arith}
use Rattle.laws.proofs.Tests.{by_test}
use Rattle.counts.specs.Counts.{run_on}

-- after k equal ones, one more: the same as the last, if there was one
pub run_up : (k run most : ℕ) (same : Bool) → 0 < most → (0 < k → same ≡ true) → min k most ≤ run → min (k + 1) most ≤ run_on same run most
unfolding run_on
run_up zero run most same p h r = by_test (λ (n : ℕ). min (0 + 1) most ≤ n) same (λ _. omega arith) (λ _. omega arith)
run_up (suc k) run most same p h r = rw (h (omega arith)) (omega arith)
