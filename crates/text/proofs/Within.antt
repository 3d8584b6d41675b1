-- Laws of `WroteWithin` and `Short`: pieces that are so short, one after the other, and the digits of a number as it was read.
use mathlib.Core.Path.{◌≡◌, ◌∙◌}
use mathlib.Core.List.{List, ◌++◌}
use Prim.Native.Nat.{ℕ, ◌+◌, ◌<◌, ◌≤◌}
use native.Mathlib.Omega.{arith}
use lib.ListN.{length, length-append}
use Rattle.text.specs.Text.{decimal_of}
use Rattle.text.specs.Inner.{Written, Short, Within}
use Rattle.text.specs.declared.Writer.{Writer}
use Rattle.text.specs.InnerWriting.{HasRoom, Wrote, WroteWithin}
use Rattle.text.proofs.Digits.{length_decimal}
use Rattle.text.proofs.Pieces.{written, wrote_then}

-- a piece that is so short
pub within : {p : List ℕ} {u w : Writer} (k : ℕ) → Wrote p u w → length p ≤ k → WroteWithin k p u w
within k x h = record { same = x.same; keeps = x.keeps; next_is = x.next_is; now_is = x.now_is; short = omega (arith, x.next_is) }

-- what was written, without its bound
pub unbound : {k : ℕ} {p : List ℕ} {u w : Writer} → WroteWithin k p u w → Wrote p u w
unbound x = record { same = x.same; keeps = x.keeps; next_is = x.next_is; now_is = x.now_is }

-- at most so many are at most more
pub wider : {j : ℕ} {p : List ℕ} {u w : Writer} (k : ℕ) → j ≤ k → WroteWithin j p u w → WroteWithin k p u w
wider k h x = within k (unbound x) (omega (arith, x.short, x.next_is))

-- the digits of a number as it was read
pub within_number : {d x y : ℕ} {u w : Writer} → Short d x y → Wrote (decimal_of y) u w → WroteWithin d (decimal_of x) u w
within_number {d} s x = rw (← s.is) (within d x s.short)

-- the second piece where the first ends
pub within_then : {j k : ℕ} {p q : List ℕ} {u v w : Writer} → WroteWithin j p u v → WroteWithin k q v w → HasRoom j u → WroteWithin (j + k) (p ++ q) u w
within_then {j = j} {k = k} {p = p} {q = q} {u = u} {v = v} {w = w} x y h =
    within (j + k) (wrote_then p q u v w (omega (arith, x.short, x.next_is)) (unbound x) (unbound y)) (simp length-append (omega (arith, x.short, x.next_is, y.short, y.next_is)))

-- a writer that began at the start of a buffer has written so far
pub begun : (p b : List ℕ) (u w : Writer) → u.out.now ≡ b → u.at ≡ 0 → Wrote p u w → Written 0 p b w.out.now w.at
begun p b u w held start x = rw (← held, ← start) (written x)

pub begun_within : (k : ℕ) (p b : List ℕ) (u w : Writer) → u.out.now ≡ b → u.at ≡ 0 → WroteWithin k p u w → Within k 0 p b w.out.now w.at
begun_within k p b u w held start x = rw (← held, ← start) (record { written = written (unbound x); short = x.short })

-- a byte has at most three digits
pub byte_short : (x m n : ℕ) → n ≡ m → m ≡ x → n < 256 → Short 3 x n
byte_short x m n e f s = record { is = e ∙ f; short = length_decimal 3 n (omega arith) (omega arith) }
