-- How many containers end in a run: each unit lacks at most a step of a container's bytes, so that few enough units lack at most one container, whatever is asked of the
-- source. Assumes nothing.
use mathlib.Core.Path.{◌≡◌, refl, ap}
use mathlib.Core.Bool.{Bool, true, false}
use Prim.Native.Nat.{ℕ, zero, suc, ◌+◌, ◌*◌, ◌≤◌}
use native.Mathlib.Nat.{add-zero, add-suc, add-mul, suc-mul, zero-mul, mul-le-mul_right}
use native.Mathlib.Omega.{arith}
use lib.Dec.{leb}
use borrow.Author.Tests.{leb-true, leb-false}
use Rattle.shape.specs.Shape.{Shape, held_count, ended_by}
use Rattle.shape.proofs.Offsets.{held_low}
use Rattle.settles_stream.proofs.Together.{unit_bytes}
use Rattle.settles.specs.Demand.{Run, path_at}
use Rattle.settles.proofs.Along.{Runs, along, number_is, offset_is}

module _ (s : Shape) (r : Run) (u : Runs s r) where
  -- the number of the current container before unit n, and the bytes of it that are sent
  abbrev pub number_at : ℕ → ℕ
  number_at n = (path_at s r n).source.number

  abbrev held_at : ℕ → ℕ
  held_at n = held_count s (path_at s r n).source.state.offset

  ended_on : (n : ℕ) → number_at (suc n) ≡ number_at n + ended_by (r.ask n) (path_at s r n).source.state.offset
  unfolding path_at
  ended_on n = number_is s r u n (path_at s r n) (along s r u n)

  unit_on : (n : ℕ) → held_at n + s.size ≤ ended_by (r.ask n) (path_at s r n).source.state.offset * s.size + held_at (suc n) + s.step
  unfolding path_at
  unit_on n =
      let x = path_at s r n in
      rw (offset_is s r u n x (along s r u n)) (unit_bytes s u.fit (r.ask n) x.source.state.offset (along s r u n).ready.source_fine.offset_low)

  -- all bytes that were sent before, and so many more units
  bytes_on : (m j : ℕ) → number_at m * s.size + held_at m + j * s.size ≤ number_at (m + j) * s.size + held_at (m + j) + j * s.step
  bytes_on m zero = rw add-zero (omega (arith, zero-mul s.size, zero-mul s.step))
  bytes_on m (suc j) =
      let e = ended_by (r.ask (m + j)) (path_at s r (m + j)).source.state.offset in
      rw (add-suc m j)
      (omega (arith, bytes_on m j, unit_on (m + j), ap (λ (n : ℕ). n * s.size) (ended_on (m + j)), add-mul (number_at (m + j)) e s.size, suc-mul j s.size, suc-mul j s.step))

  -- the number never falls
  pub goes_up : (m j : ℕ) → number_at m ≤ number_at (m + j)
  goes_up m zero = rw add-zero (omega arith)
  goes_up m (suc j) = rw (add-suc m j) (omega (arith, goes_up m j, ended_on (m + j)))

  -- THE COUNT: in j units, no more than there are steps in a container, at least j - 1 containers end
  pub ends_enough : (m j : ℕ) → j * s.step ≤ s.size → number_at m + j ≤ number_at (m + j) + 1
  ends_enough m j few = go (leb (number_at m + j) (number_at (m + j) + 1)) refl
    where
      go : (b : Bool) → leb (number_at m + j) (number_at (m + j) + 1) ≡ b → number_at m + j ≤ number_at (m + j) + 1
      go true t = leb-true (number_at m + j) (number_at (m + j) + 1) t
      go false t =
          let less : number_at (m + j) + 2 ≤ number_at m + j = omega (arith, leb-false (number_at m + j) (number_at (m + j) + 1) t) in
          let bytes : (number_at (m + j) + 2) * s.size ≤ (number_at m + j) * s.size = mul-le-mul_right s.size less in
          absurd (omega (arith, bytes_on m j, held_low s (path_at s r (m + j)).source.state.offset u.fit, u.fit.some, add-mul (number_at (m + j)) 2 s.size, add-mul (number_at m) j s.size))
