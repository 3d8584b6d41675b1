-- As many containers are handed back as the count says, and both buffers keep their lengths. Assumes nothing.
use mathlib.Core.Path.{◌≡◌, refl}
use mathlib.Core.Bool.{Bool, true, false, cond}
use mathlib.Core.List.{List, ◌++◌}
use Prim.Native.Nat.{ℕ, ◌+◌}
use native.Mathlib.Omega.{arith}
use lib.Dec.{ltb}
use lib.ListN.{length, length-append, length-take, length-drop}
use borrow.Author.Tests.{ltb-true}
use Rattle.laws.proofs.Tests.{by_test}
use Rattle.shape.specs.Shape.{Shape}
use Rattle.cut.specs.Cut.{cut_of, completed_of, inside_part, one_if, ended_of, ended_count, done_of, held_of}
use Rattle.cut.specs.Inner.{Line, Sizes}
use Rattle.cut.specs.declared.Cut.{Cut}
use Rattle.cut.proofs.Within.{rest_count, rest_low}

-- ---- what ended

-- as many as the count says
pub length_ended : (s : Shape) (c : Cut) (unit held : List ℕ) → length (ended_of s c unit held) ≡ ended_count c
unfolding ended_of ended_count
length_ended s c unit held = go c.ends c.inside
  where
    go : (a b : Bool) → length (one_if a (completed_of s c unit held) ++ one_if b (inside_part s c unit)) ≡ cond a 1 0 + cond b 1 0
    go true true = refl
    go true false = refl
    go false true = refl
    go false false = refl

-- ---- lengths

module _ (s : Shape) (kept from : ℕ) (unit held done : List ℕ) (l : Line s kept from) (z : Sizes s unit held done) where
  pub done_length : length (done_of s (cut_of s kept from) unit held done) ≡ s.size
  unfolding done_of completed_of cut_of
  done_length =
      by_test (λ (d : List ℕ). length d ≡ s.size) (ltb 0 kept)
      (λ e. simp (length-append, length-take, length-drop) (omega (arith, z.unit_is, z.held_is, l.kept_low, l.ends_within (ltb-true 0 kept e))))
      (λ _. z.done_is)

  pub held_length : length (held_of (cut_of s kept from) unit held) ≡ s.size
  unfolding held_of
  held_length = simp (length-append, length-drop) (omega (arith, z.unit_is, z.held_is, rest_count s kept from l, rest_low s kept from l))
