-- Five containers without it: a defect is cleared. Assumes nothing.
use mathlib.Core.Path.{◌≡◌, refl}
use mathlib.Core.Bool.{Bool, true, false, ◌&&◌}
use Prim.Native.Nat.{ℕ, ◌+◌, ◌<◌, ◌≤◌, min}
use native.Mathlib.Omega.{arith}
use borrow.Author.Tests.{le-ltb}
use Rattle.counts.specs.Counts.{more}
use Rattle.overhead.specs.declared.Defect.{Defect}
use Rattle.overhead.specs.Defects.{defect_of}

-- after k containers without it
pub record Near (k : ℕ) (d : Defect) : Type 0 where
  pub with : 0 < k → d.with ≡ 0
  pub runs : min k 5 ≤ d.without
  pub cleared : 5 ≤ k → d.stands ≡ false

-- any state, before the first
pub near_none : (d : Defect) → Near 0 d
near_none d = record { with = λ p. absurd (omega arith); runs = omega arith; cleared = λ p. absurd (omega arith) }

and_no : (a : Bool) → (a && false) ≡ false
and_no true = refl
and_no false = refl

-- one container without
pub near_step : (k : ℕ) (d : Defect) → Near k d → Near (k + 1) (defect_of d false)
unfolding defect_of
near_step k d n =
    let r : min (k + 1) 5 ≤ more d.without 5 = omega (arith, n.runs) in
    record {
      with = λ _. refl;
      runs = r;
      cleared = λ h. rw (le-ltb (more d.without 5) 5 (omega arith)) (and_no d.stands);
    }
