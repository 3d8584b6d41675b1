-- What is left for a loop that counts up, where a definition recurses on how much is left. Assumes nothing.
use mathlib.Core.Path.{◌≡◌}
use Prim.Native.Nat.{ℕ, suc, ◌+◌, ◌-◌, ◌<◌, ◌≤◌}
use native.Mathlib.Omega.{arith}

pub one_less : (i n : ℕ) → i < n → n - i ≡ suc (n - (i + 1))
one_less i n h = omega arith

pub none_left : (i n : ℕ) → n ≤ i → n - i ≡ 0
none_left i n h = omega arith

pub all_left : (n : ℕ) → n - 0 ≡ n
all_left n = omega arith
