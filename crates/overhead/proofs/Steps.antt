-- What the parts answered is the definition's. Assumes nothing.
use mathlib.Core.Path.{◌≡◌, refl}
use mathlib.Core.Bool.{Bool, true, false, ◌&&◌, ◌||◌}
use Prim.Native.Nat.{ℕ, ◌<◌, ◌≤◌}
use lib.Bits.{bit_xor}
use lib.Dec.{eqb, ltb, leb}
use borrow.Author.Tests.{le-leb, lt-leb}
use Rattle.counts.specs.Counts.{more, run_on}
use Rattle.overhead.specs.declared.Accepted.{Accepted}
use Rattle.overhead.specs.declared.Defect.{Defect}
use Rattle.overhead.specs.declared.Parity.{Parity}
use Rattle.overhead.specs.Accepted.{accepted_of}
use Rattle.overhead.specs.Defects.{defect_of}
use Rattle.overhead.specs.Violations.{violated_of}

-- ---- a defect, with it and without

module _ (d : Defect) (bit : Bool) (n : ℕ) where
  pub defect_with : bit ≡ true → n ≡ more d.with 5 → record { with = n; without = 0; stands = d.stands || leb 5 n } ≡ defect_of d bit
  unfolding defect_of
  defect_with h e = rw (h, e) refl

  pub defect_without : bit ≡ false → n ≡ more d.without 5 → record { with = 0; without = n; stands = d.stands && ltb n 5 } ≡ defect_of d bit
  unfolding defect_of
  defect_without h e = rw (h, e) refl

-- ---- what five equal ones accept

module _ (a : Accepted) (value run : ℕ) (run_is : run ≡ run_on (eqb value a.last) a.run 5) where
  pub accepts : 5 ≤ run → record { last = value; run = run; known = true; value = value } ≡ accepted_of a value
  unfolding accepted_of
  accepts h = rw (← run_is, le-leb 5 run h) refl

  pub accepts_not_yet : run < 5 → record { last = value; run = run; known = a.known; value = a.value } ≡ accepted_of a value
  unfolding accepted_of
  accepts_not_yet h = rw (← run_is, lt-leb 5 run h) refl

-- ---- columns

module _ (p : Parity) (b3 : ℕ) where
  pub compared : p.known ≡ true → bit_xor b3 p.value ≡ violated_of p b3
  unfolding violated_of
  compared h = rw h refl

  pub none_known : p.known ≡ false → 0x00 ≡ violated_of p b3
  unfolding violated_of
  none_known h = rw h refl
