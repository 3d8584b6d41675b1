-- A cut stays within the unit and the buffers. Assumes nothing.
use mathlib.Core.Path.{◌≡◌, refl}
use mathlib.Core.Bool.{true}
use Prim.Native.Nat.{ℕ, ◌+◌, ◌-◌, ◌*◌, ◌≤◌}
use native.Mathlib.Omega.{arith}
use lib.Dec.{ltb, leb}
use borrow.Author.Tests.{ltb-true, leb-true, leb-false}
use Rattle.laws.proofs.Tests.{by_test}
use Rattle.shape.specs.Shape.{Shape, Fit, unit_length}
use Rattle.cut.specs.declared.Cut.{Cut}
use Rattle.cut.specs.Cut.{next_of, inside_of, begin_of, cut_of}
use Rattle.cut.specs.Inner.{Line}

-- a place in the unit, and not before another
pub record Between (s : Shape) (low place : ℕ) : Type 0 where
  pub behind : low ≤ place
  pub within : place ≤ unit_length s

-- a container begins in the unit, and not before H3
pub next_between : (s : Shape) (kept from : ℕ) → Line s kept from → Between s (2 * s.step) (next_of s kept from)
unfolding next_of
next_between s kept from l =
    by_test (λ (n : ℕ). Between s (2 * s.step) n) (ltb 0 kept)
    (λ e. record { behind = omega (arith, l.behind); within = l.ends_within (ltb-true 0 kept e) })
    (λ _. record { behind = l.behind; within = l.within })

-- so what is held from it on is no more than a container
begin_between : (s : Shape) (next : ℕ) → Fit s → Between s (2 * s.step) next → Between s (3 * s.step) (begin_of s next)
unfolding begin_of inside_of
begin_between s next f n =
    by_test (λ (b : ℕ). Between s (3 * s.step) b) (leb next (3 * s.step))
    (λ e. record { behind = omega (arith, n.behind, f.two); within = omega (arith, leb-true next (3 * s.step) e) })
    (λ e. record { behind = omega (arith, leb-false next (3 * s.step) e); within = n.within })

module _ (s : Shape) (kept from : ℕ) (l : Line s kept from) where
  begins : Between s (3 * s.step) (begin_of s (next_of s kept from))
  begins = begin_between s (next_of s kept from) l.fit (next_between s kept from l)

  pub next_low : next_of s kept from ≤ unit_length s
  next_low = (next_between s kept from l).within

  pub begin_low : begin_of s (next_of s kept from) ≤ unit_length s
  begin_low = begins.within

  -- the same of the numbers that the code has for them
  module _ (next : ℕ) (next_is : next ≡ next_of s kept from) where
    pub next_within : next ≤ unit_length s
    next_within = rw next_is next_low

    module _ (begin : ℕ) (begin-is : begin ≡ begin_of s next) where
      pub begin_within : begin ≤ unit_length s
      begin_within = rw (begin-is, next_is) begin_low

      pub places_are : ◌≡◌ {A = Cut}
          (record { kept = kept; from = from; ends = ltb 0 kept; next = next; inside = leb next (3 * s.step); begin = begin; rest = unit_length s - begin })
          (cut_of s kept from)
      unfolding cut_of inside_of
      places_are = rw (begin-is, next_is) refl

  -- the part of the unit that ends inside can be lent
  pub inside_fits : (cut_of s kept from).inside ≡ true → (cut_of s kept from).next + s.size ≤ unit_length s
  unfolding cut_of inside_of
  inside_fits e = omega (arith, leb-true (next_of s kept from) (3 * s.step) e)

  -- what is left is the unit's end, and no more than a container
  pub rest_count : unit_length s ≡ (cut_of s kept from).begin + (cut_of s kept from).rest
  unfolding cut_of
  rest_count = omega (arith, begins.within)

  pub rest_low : (cut_of s kept from).rest ≤ s.size
  unfolding cut_of
  rest_low = omega (arith, begins.behind)
