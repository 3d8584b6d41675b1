-- The bytes balance: what was sent of the container under way, and the run of a unit, are the containers that end in it and what is then sent of the next.
-- Every count of containers and bytes follows from this law. Assumes nothing.
use mathlib.Core.Path.{◌≡◌}
use mathlib.Core.Bool.{true, false, cond}
use Prim.Native.Nat.{ℕ, zero, suc, ◌≤◌, ◌-◌, ◌+◌, ◌*◌}
use native.Mathlib.Nat.{mul-suc, mul-one}
use native.Mathlib.Omega.{arith}
use lib.Dec.{eqb, ltb}
use borrow.Author.Tests.{lt-ltb, ne_eqb, ltb-true, ltb-false}
use Rattle.laws.proofs.Tests.{by_test}
use Rattle.shape.specs.Shape.{Shape, Fit, unit_length, held_count, up_of, down_of, offset_after, run_from, ended_by}
use Rattle.shape.specs.declared.Adjustment.{Adjustment}
use Rattle.shape.specs.declared.Adjustment.TheVariants.{Nothing, Increment, Decrement}
use Rattle.shape.proofs.Offsets.{place_low, top_some, held_none, held_some}

-- n bytes under way, a run from `from`, k containers that end, m bytes under way after
abbrev pub Balanced : Shape → ℕ → ℕ → ℕ → ℕ → Type 0
Balanced s n from k m = n + unit_length s ≡ from + (k * s.size + m)

up_balance : (s : Shape) (v : ℕ) → Fit s → v ≤ s.top → Balanced s (held_count s v) (4 * s.step) (cond (eqb v 0) 0 1) (held_count s (up_of s.top v))
unfolding up_of
up_balance s zero f h =
    let t = top_some s f in
    let low : ltb 0 s.top ≡ true = lt-ltb 0 s.top t in
    simp low (omega (arith, held_none s, held_some s 0, mul-one s.step, f.two))
up_balance s (suc w) f h =
    let p = place_low s (suc w) f h in
    let m = mul-suc s.step w in
    let n = held_some s w in
    let ne : eqb (suc w) 0 ≡ false = ne_eqb (suc w) 0 (λ e. omega arith) in
    simp ne
    (by_test (λ (a : ℕ). Balanced s (held_count s (suc w)) (4 * s.step) 1 (held_count s a)) (ltb (suc w) s.top)
    (λ e.
    let l = ltb-true (suc w) s.top e in
    let q : suc w + 1 ≡ suc (suc w) = omega arith in
    rw q (omega (arith, place_low s (suc (suc w)) f (omega arith), held_some s (suc w), mul-suc s.step (suc w))))
    (λ e.
    let l = ltb-false (suc w) s.top e in
    let at_top : suc w ≡ s.top = omega arith in
    let full : s.step * suc w + s.step ≡ s.size = rw at_top (omega (arith, f.fills)) in
    omega (arith, held_none s)))

down_balance : (s : Shape) (v : ℕ) → Fit s → v ≤ s.top → Balanced s (held_count s v) (2 * s.step) (cond (eqb v 1) 2 1) (held_count s (down_of s.top v))
unfolding down_of
down_balance s zero f h = go s.top f.fills (top_some s f)
  where
    go : (t : ℕ) → s.size ≡ s.step * (t + 1) → 1 ≤ t → Balanced s (held_count s 0) (2 * s.step) 1 (held_count s t)
    go zero e k = absurd (omega arith)
    go (suc t) e k = omega (arith, held_none s, held_some s t, e, f.two)
down_balance s (suc zero) f h = omega (arith, held_none s, held_some s 0, mul-one s.step, f.two)
down_balance s (suc (suc w)) f h =
    let not-zero : eqb (suc (suc w)) 0 ≡ false = ne_eqb (suc (suc w)) 0 (λ e. omega arith) in
    let above : eqb (suc (suc w)) 1 ≡ false = ne_eqb (suc (suc w)) 1 (λ e. omega arith) in
    let less : suc (suc w) - 1 ≡ suc w = omega arith in
    let p = place_low s (suc (suc w)) f h in
    simp (not-zero, less, above) (omega (arith, mul-suc s.step (suc w), held_some s (suc w), held_some s w))

pub balance : (s : Shape) (a : Adjustment) (v : ℕ) → Fit s → v ≤ s.top → Balanced s (held_count s v) (run_from s.step a) (ended_by a v) (held_count s (offset_after s.top a v))
unfolding run_from ended_by offset_after
balance s Nothing v f h = omega arith
balance s Increment v f h = up_balance s v f h
balance s Decrement v f h = down_balance s v f h
