-- How many bytes are held after a unit, and how many containers end in it, whatever its bytes. Both follow from one law, `balance`. Assumes nothing.
use mathlib.Core.Path.{◌≡◌, refl}
use mathlib.Core.Bool.{Bool, true, false, cond}
use Prim.Native.Nat.{ℕ, zero, suc, ◌+◌, ◌-◌, ◌*◌, ◌≤◌, ◌<◌}
use native.Mathlib.Nat.{mul-zero}
use native.Mathlib.Omega.{arith}
use lib.Dec.{ltb, leb, eqb}
use borrow.Author.Tests.{ltb-true, ltb-false, le-leb, lt-leb, ne_eqb}
use Rattle.shape.specs.Shape.{Shape, Fit, unit_length, place_of, held_count, offset_after, run_from, ended_by}
use Rattle.shape.specs.declared.Adjustment.{Adjustment}
use Rattle.shape.proofs.Offsets.{place_low, held_none, held_some, held_low}
use Rattle.shape.proofs.Balance.{Balanced, balance}
use Rattle.cut.specs.Cut.{next_of, inside_of, begin_of, cut_of, ended_count}
use Rattle.cut.specs.Inner.{Line}
use Rattle.cut.proofs.Lines.{line_goes, line_restarts}

-- what is held, and how many end, as a container begins at `next` and so many ended before
record After (s : Shape) (before next k m : ℕ) : Type 0 where
  rest_is : unit_length s - begin_of s next ≡ m
  ended_is : before + cond (inside_of s next) 1 0 ≡ k

-- it does not end
none_inside : (s : Shape) (before next m : ℕ) → next + m ≡ unit_length s → m < s.size → After s before next before m
unfolding begin_of inside_of
none_inside s before next m e h =
    let out : leb next (3 * s.step) ≡ false = lt-leb next (3 * s.step) (omega arith) in
    record { rest_is = simp out (omega arith); ended_is = simp out (omega arith) }

-- it ends
one_inside : (s : Shape) (before next m : ℕ) → next + (s.size + m) ≡ unit_length s → After s before next (suc before) m
unfolding begin_of inside_of
one_inside s before next m e =
    let in-it : leb next (3 * s.step) ≡ true = le-leb next (3 * s.step) (omega arith) in
    record { rest_is = simp in-it (omega arith); ended_is = simp in-it (omega arith) }

-- n bytes held and a run that begins at `from` balance k containers and m bytes: no other k and m do
module _ (s : Shape) (n from : ℕ) (l : Line s n from) where
  after_by_lem : (k m : ℕ) → m + s.step ≤ s.size → Balanced s n from k m → (b : Bool) → ltb 0 n ≡ b
      → After s (cond b 1 0) (cond b (from + (s.size - n)) from) k m
  after_by_lem zero m h e true t = absurd (omega (arith, l.fit.some, l.ends_within (ltb-true 0 n t)))
  after_by_lem zero m h e false t = let z = ltb-false 0 n t in none_inside s 0 from m (omega arith) (omega (arith, l.fit.some))
  after_by_lem (suc zero) m h e true t = none_inside s 1 (from + (s.size - n)) m (omega (arith, l.kept_low)) (omega (arith, l.fit.some))
  after_by_lem (suc zero) m h e false t = let z = ltb-false 0 n t in one_inside s 0 from m (omega arith)
  after_by_lem (suc (suc zero)) m h e true t = one_inside s 1 (from + (s.size - n)) m (omega (arith, l.kept_low))
  after_by_lem (suc (suc zero)) m h e false t = let z = ltb-false 0 n t in absurd (omega (arith, l.fit.two, l.fit.some, l.behind))
  after_by_lem (suc (suc (suc k))) m h e b t = absurd (omega (arith, l.fit.two, l.fit.some, l.behind, l.kept_low))

  rest_by : (k m : ℕ) → m + s.step ≤ s.size → Balanced s n from k m → (cut_of s n from).rest ≡ m
  unfolding cut_of next_of
  rest_by k m h e = (after_by_lem k m h e (ltb 0 n) refl).rest_is

  ended_by_lem : (k m : ℕ) → m + s.step ≤ s.size → Balanced s n from k m → ended_count (cut_of s n from) ≡ k
  unfolding ended_count cut_of next_of
  ended_by_lem k m h e = (after_by_lem k m h e (ltb 0 n) refl).ended_is

-- ---- a unit that goes on

-- "a normal state's held count": every unit leaves it so
pub rest_goes : (s : Shape) (a : Adjustment) (v : ℕ) → Fit s → v ≤ s.top
    → (cut_of s (held_count s v) (run_from s.step a)).rest ≡ held_count s (offset_after s.top a v)
rest_goes s a v f h =
    let w = offset_after s.top a v in
    rest_by s (held_count s v) (run_from s.step a) (line_goes s a v f h) (ended_by a v) (held_count s w) (held_low s w f) (balance s a v f h)

pub ends_goes : (s : Shape) (a : Adjustment) (v : ℕ) → Fit s → v ≤ s.top → ended_count (cut_of s (held_count s v) (run_from s.step a)) ≡ ended_by a v
ends_goes s a v f h =
    let w = offset_after s.top a v in
    ended_by_lem s (held_count s v) (run_from s.step a) (line_goes s a v f h) (ended_by a v) (held_count s w) (held_low s w f) (balance s a v f h)

-- ---- a unit that starts anew

-- from J1 on, the run is a container that ends, at offset 0, or what is held
restart_balance : (s : Shape) (w : ℕ) → Fit s → w ≤ s.top → Balanced s 0 (3 * s.step + place_of s w) (cond (eqb w 0) 1 0) (held_count s w)
restart_balance s zero f h = rw mul-zero (omega (arith, held_none s))
restart_balance s (suc w) f h =
    let some : eqb (suc w) 0 ≡ false = ne_eqb (suc w) 0 (λ e. omega arith) in
    simp some (omega (arith, held_some s w, place_low s (suc w) f h))

pub rest_restarts : (s : Shape) (w : ℕ) → Fit s → w ≤ s.top → (cut_of s 0 (3 * s.step + place_of s w)).rest ≡ held_count s w
rest_restarts s w f h =
    rest_by s 0 (3 * s.step + place_of s w) (line_restarts s w f h) (cond (eqb w 0) 1 0) (held_count s w) (held_low s w f) (restart_balance s w f h)

pub ends_restarts : (s : Shape) (w : ℕ) → Fit s → w ≤ s.top → ended_count (cut_of s 0 (3 * s.step + place_of s w)) ≡ cond (eqb w 0) 1 0
ends_restarts s w f h =
    ended_by_lem s 0 (3 * s.step + place_of s w) (line_restarts s w f h) (cond (eqb w 0) 1 0) (held_count s w) (held_low s w f) (restart_balance s w f h)
