-- The violated columns and their number, which whoever asks takes. Assumes nothing.
use mathlib.Core.Path.{◌≡◌, refl, sym, ◌∙◌}
use mathlib.Core.Bool.{Bool, true, false, cond}
use Prim.Native.Nat.{ℕ, ◌+◌, ◌/◌, ◌%◌, ◌^◌, ◌<◌, ◌≤◌}
use native.Mathlib.Omega.{arith}
use lib.Arith.{bin_ind}
use lib.Bits.{bit_xor}
use lib.Count.{ones, ones_step, ones-le}
use Rattle.overhead.specs.declared.Parity.{Parity}
use Rattle.overhead.specs.Violations.{violated_of, violations_of}

ones_by : (b : Bool) (x : ℕ) → ones (cond b x 0x00) ≡ cond b (ones x) 0
unfolding ones
ones_by true x = refl
ones_by false x = refl

-- They are 01's violations: "ones in (B3 exclusive or last parity), 0 with no last parity".
pub as_in_01 : (p : Parity) (b3 : ℕ) → violations_of (violated_of p b3) ≡ cond p.known (ones (bit_xor b3 p.value)) 0
unfolding violated_of violations_of
as_in_01 p b3 = ones_by p.known (bit_xor b3 p.value)

-- At most eight of a byte, so that a source returns any of them: 6 does not refuse it.
pub at_most_8 : (violated : ℕ) → violated < 2 ^ 8 → violations_of violated ≤ 8
unfolding violations_of
at_most_8 = ones-le 8

-- No column is no violation, and no violation is no column.
pub none_counted : violations_of 0x00 ≡ 0
unfolding violations_of ones
none_counted = refl

pub counted_none : (violated : ℕ) → violations_of violated ≡ 0 → violated ≡ 0x00
unfolding violations_of
counted_none =
    bin_ind (λ (n : ℕ). ones n ≡ 0 → n ≡ 0) (λ e. refl)
    (λ n ih e.
    let sum : n % 2 + ones (n / 2) ≡ 0 = sym (ones_step n) ∙ e in
    let half : n / 2 ≡ 0 = ih (omega arith) in
    omega arith)
