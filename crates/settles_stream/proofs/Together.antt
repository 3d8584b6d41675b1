-- The stream's part of settling. While a sink stands at the source's offset and holds what the source has sent of its current container, a unit hands back exactly
-- the containers that the source says ended, and both stand together again. A unit taken by rule 3 at the source's offset brings them together, and so does one that goes
-- on from it, whatever is held. For any containers of the right length, and for every shape that fits. Assumes nothing.
use mathlib.Core.Path.{◌≡◌, refl, ap, ◌∙◌}
use mathlib.Core.List.{List, ◌∷◌, ◌++◌}
use Prim.Native.Nat.{ℕ, zero, suc, ◌≤◌, ◌<◌, ◌-◌, ◌+◌, ◌*◌}
use native.Mathlib.Nat.{add-zero, zero-add, suc-add}
use native.Mathlib.Omega.{arith}
use lib.ListN.{length, take, drop}
use lib.Seq.{take_at, length-take-le}
use Rattle.shape.specs.Shape.{Shape, Fit, unit_length, place_of, held_count, offset_after, run_from, ended_by}
use Rattle.shape.specs.declared.Adjustment.{Adjustment}
use Rattle.shape.specs.declared.Adjustment.TheVariants.{Nothing}
use Rattle.shape.proofs.Offsets.{place_low, held_none, held_some, held_low, run_begins}
use Rattle.shape.proofs.Balance.{balance}
use Rattle.cut.specs.Cut.{cut_of, ended_of, held_of}
use Rattle.cut.specs.declared.Cut.{Cut}
use Rattle.cut.proofs.Lines.{line_goes}
use Rattle.unit_source.specs.Source.{unit_sent}
use Rattle.unit_source_theorems.proofs.Shares.{unit_run}
use Rattle.settles_stream.specs.InOrder.{boxes}
use Rattle.settles_stream.proofs.Chop.{Chopped, chop, next_is, none_ends, none_held}

-- a containers, and the b after them
pub boxes_append : (box : ℕ → List ℕ) (i a b : ℕ) → boxes box i a ++ boxes box (i + a) b ≡ boxes box i (a + b)
unfolding boxes
boxes_append box i zero b = rw (add-zero i, zero-add b)
boxes_append box i (suc a) b =
    let e : i + suc a ≡ i + 1 + a = omega arith in
    rw (e, suc-add a b) (ap (λ (l : List (List ℕ)). box i ∷ l) (boxes_append box (i + 1) a b))

module _ (s : Shape) (f : Fit s) (box : ℕ → List ℕ) (full : (i : ℕ) → length (box i) ≡ s.size) where
  -- the held buffer after a cut whose rest is the beginning of container i
  held_after : (c : Cut) (unit held : List ℕ) (i m : ℕ) → m ≤ s.size → drop c.begin unit ≡ take m (box i)
      → take m (held_of c unit held) ≡ take m (box i)
  unfolding held_of
  held_after c unit held i m low r =
      let d : length (drop c.begin unit) ≡ m = ap length r ∙ length-take-le m (box i) (omega (arith, full i)) in
      take_at (drop c.begin unit) (drop c.rest held) m d ∙ r

  -- ---- a unit that goes on

  goes_chopped : (a : Adjustment) (v i : ℕ) (held : List ℕ) → v ≤ s.top → take (held_count s v) held ≡ take (held_count s v) (box i)
      → Chopped s box full i (ended_by a v) (held_count s (offset_after s.top a v))
      (cut_of s (held_count s v) (run_from s.step a)) (unit_sent s a v (box i) (box (i + 1))) held
  goes_chopped a v i held h t =
      chop s box full i (held_count s v) (run_from s.step a) (ended_by a v) (held_count s (offset_after s.top a v)) (unit_sent s a v (box i) (box (i + 1))) held
      (line_goes s a v f h) (held_low s v f) (held_low s (offset_after s.top a v) f) (unit_run s a v (box i) (box (i + 1)) f) t (balance s a v f h)

  -- What it hands back is what the source says ended.
  pub goes_ended : (a : Adjustment) (v i : ℕ) (held : List ℕ) → v ≤ s.top
      → take (held_count s v) held ≡ take (held_count s v) (box i)
      → ended_of s (cut_of s (held_count s v) (run_from s.step a)) (unit_sent s a v (box i) (box (i + 1))) held ≡ boxes box i (ended_by a v)
  goes_ended a v i held h t = (goes_chopped a v i held h t).ended

  -- And both stand together again; they do so whatever was held, since a sink that holds what was sent cuts at the same places.
  pub goes_held : (a : Adjustment) (v i : ℕ) (held : List ℕ) → v ≤ s.top
      → let w = offset_after s.top a v in
      take (held_count s w) (held_of (cut_of s (held_count s v) (run_from s.step a)) (unit_sent s a v (box i) (box (i + 1))) held)
      ≡ take (held_count s w) (box (i + ended_by a v))
  goes_held a v i held h =
      let m = held_count s (offset_after s.top a v) in
      held_after (cut_of s (held_count s v) (run_from s.step a)) (unit_sent s a v (box i) (box (i + 1))) held (i + ended_by a v) m
      (omega (arith, held_low s (offset_after s.top a v) f)) (goes_chopped a v i (box i) h refl).rest

  -- ---- a unit that starts anew

  -- the next container begins where the current one ends
  next_begins : (v i : ℕ) → v ≤ s.top → 0 < held_count s v
      → drop (3 * s.step + (s.size - held_count s v)) (unit_sent s Nothing v (box i) (box (i + 1)))
      ≡ take (unit_length s - (3 * s.step + (s.size - held_count s v))) (box (i + 1) ++ box (i + 1 + 1))
  unfolding run_from
  next_begins v i h some =
      next_is s box full i (held_count s v) (3 * s.step) (unit_sent s Nothing v (box i) (box (i + 1)))
      (line_goes s Nothing v f h) some (held_low s v f) (unit_run s Nothing v (box i) (box (i + 1)) f)

  -- Rule 3 at the source's offset, in a unit with no adjustment: from J1 on it is the next container's beginning.
  pub restart_held : (v i : ℕ) (held : List ℕ) → v ≤ s.top
      → take (held_count s v) (held_of (cut_of s 0 (3 * s.step + place_of s v)) (unit_sent s Nothing v (box i) (box (i + 1))) held) ≡ take (held_count s v) (box (i + 1))
  restart_held zero i held h = rw (held_none s) refl
  restart_held (suc v) i held h =
      let n = held_count s (suc v) in
      let place = place_of s (suc v) in
      let unit = unit_sent s Nothing (suc v) (box i) (box (i + 1)) in
      let p = place_low s (suc v) f h in
      let m = held_some s v in
      let j1 : 3 * s.step + (s.size - n) ≡ 3 * s.step + place = omega arith in
      let run = rw j1 at (next_begins (suc v) i h (omega (arith, f.some))) in
      let begun = none_ends s box full (i + 1) n (3 * s.step + place) unit run (omega arith) (omega (arith, held_low s (suc v) f, f.some)) in
      let chopped = none_held s box full (i + 1) 0 n (3 * s.step + place) unit held begun in
      held_after (cut_of s 0 (3 * s.step + place)) unit held (i + 1) n (omega arith) (rw add-zero at chopped.rest)

-- THE COUNT: one unit lacks at most a step of a container's bytes.
pub unit_bytes : (s : Shape) → Fit s → (a : Adjustment) (v : ℕ) → v ≤ s.top
    → held_count s v + s.size ≤ ended_by a v * s.size + held_count s (offset_after s.top a v) + s.step
unit_bytes s f a v h = omega (arith, balance s a v f h, (run_begins s.step a).before)
