-- Laws of offsets and their places. The product of step and value is opened here alone; after it all is linear in places. Assumes nothing.
use mathlib.Core.Path.{◌≡◌, refl}
use Prim.Native.Nat.{ℕ, zero, suc, ◌≤◌, ◌<◌, ◌-◌, ◌+◌, ◌*◌}
use native.Mathlib.Nat.{mul-le-mul_left, mul-suc, mul-one}
use native.Mathlib.Omega.{arith}
use lib.Dec.{eqb, ltb}
use borrow.Author.Tests.{ltb-true, ne_eqb}
use Rattle.laws.proofs.Tests.{by_test}
use Rattle.shape.specs.Numbers.{au4_fits}
use Rattle.shape.specs.Shape.{Shape, au4, tu3, Fit, place_of, held_count, up_of, down_of, offset_after, run_from}
use Rattle.shape.specs.declared.Adjustment.{Adjustment}
use Rattle.shape.specs.declared.Adjustment.TheVariants.{Nothing, Increment, Decrement}

pub au4_fit : Fit au4
au4_fit = au4_fits

pub tu3_fit : Fit tu3
tu3_fit = record { some = omega arith; fills = refl; nine = refl; two = omega arith; ten = omega arith; low = omega arith }

-- ---- places

-- a value in range has its place a step or more before the container's end
pub place_low : (s : Shape) (v : ℕ) → Fit s → v ≤ s.top → place_of s v + s.step ≤ s.size
place_low s v f h =
    let m : s.step * (v + 1) ≤ s.step * (s.top + 1) = mul-le-mul_left s.step (omega arith) in
    omega (arith, f.fills)

-- there is more than one value
pub top_some : (s : Shape) → Fit s → 0 < s.top
top_some s f = go s.top f.fills
  where
    go : (t : ℕ) → s.size ≡ s.step * (t + 1) → 0 < t
    go zero e = absurd (omega (arith, f.two, f.some, mul-one s.step, e))
    go (suc t) e = omega arith

-- ---- the bytes of the container under way

pub held_none : (s : Shape) → held_count s 0 ≡ 0
unfolding held_count
held_none s = refl

pub held_some : (s : Shape) (v : ℕ) → held_count s (suc v) ≡ s.size - place_of s (suc v)
unfolding held_count
held_some s v = simp (ne_eqb (suc v) 0 (λ e. omega arith))

-- at least a step of the container is still to come
pub held_low : (s : Shape) (v : ℕ) → Fit s → held_count s v + s.step ≤ s.size
held_low s zero f = omega (arith, held_none s, f.two)
held_low s (suc v) f = omega (arith, held_some s v, mul-suc s.step v, f.two)

-- ---- adjustments

-- an adjustment leads from a value in range to one
pub after_low : (top : ℕ) (a : Adjustment) (v : ℕ) → v ≤ top → offset_after top a v ≤ top
unfolding offset_after up_of down_of
after_low top Nothing v h = h
after_low top Increment v h = by_test (λ (n : ℕ). n ≤ top) (ltb v top) (λ e. let l = ltb-true v top e in omega arith) (λ _. omega arith)
after_low top Decrement v h = by_test (λ (n : ℕ). n ≤ top) (eqb v 0) (λ _. omega arith) (λ _. omega arith)

-- the run begins at H3 or up to a step after byte offset 0
pub record Begins (step from : ℕ) : Type 0 where
  pub behind : 2 * step ≤ from
  pub before : from ≤ 4 * step

pub run_begins : (step : ℕ) (a : Adjustment) → Begins step (run_from step a)
unfolding run_from
run_begins step Nothing = record { behind = omega arith; before = omega arith }
run_begins step Increment = record { behind = omega arith; before = omega arith }
run_begins step Decrement = record { behind = omega arith; before = omega arith }
