-- The word that a unit carries, read where a sink reads it: H1 at the unit's first place, H2 a step after it. Assumes nothing.
use mathlib.Core.Path.{◌≡◌, ap₂, ◌∙◌}
use mathlib.Core.List.{List}
use Prim.Native.Nat.{ℕ, ◌-◌}
use native.Mathlib.Omega.{arith}
use lib.ListN.{get_or}
use Rattle.word.specs.Word.{word_of, h1_of, h2_of}
use Rattle.shape.specs.Shape.{Shape, Fit, unit_length, held_count, run_from}
use Rattle.shape.specs.declared.Adjustment.{Adjustment}
use Rattle.unit.specs.Unit.{run_of}
use Rattle.unit.proofs.Writing.{head_h1, head_h2}
use Rattle.unit_source.specs.Source.{word_sent, unit_sent}

both_bytes : (w : ℕ) → word_of (h1_of w) (h2_of w) ≡ w
both_bytes w = omega arith

-- "the source sends the inverted word in the unit of the adjustment", and the plain one in every other
pub word_carried : (s : Shape) (a : Adjustment) (v : ℕ) (current next : List ℕ) → Fit s
    → word_of (get_or (unit_sent s a v current next) 0 0) (get_or (unit_sent s a v current next) s.step 0) ≡ word_sent a v
unfolding unit_sent
word_carried s a v current next f =
    let from = run_from s.step a in
    let run = run_of (unit_length s - from) (held_count s v) current next in
    ap₂ word_of (head_h1 s.step (word_sent a v) from run) (head_h2 s.step (word_sent a v) from run f.some) ∙ both_bytes (word_sent a v)
