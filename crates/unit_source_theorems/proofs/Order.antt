-- The order in which a call of the unit source is refused, as one table, computed by the check from the definitions. Assumes nothing.
use mathlib.Core.Path.{◌≡◌, refl}
use mathlib.Core.List.{List, [], ◌∷◌, map}
use Prim.Native.Nat.{ℕ}
use Rattle.refusals.specs.Refusals.{number_of, answer_number, due, answer_of}
use Rattle.shape.specs.Shape.{au4}
use Rattle.shape.specs.declared.Adjustment.{Adjustment}
use Rattle.shape.specs.declared.Adjustment.TheVariants.{Nothing, Increment, Decrement}
use Rattle.unit_source.specs.Source.{adjusts, source_out_of_range, make_faults}

-- "Unit source: 8, 3, 1, 7": each row has its own fault and all those after it in that order, the last two none
pub record Row : Type 0 where
  pub offset : ℕ
  pub wait : ℕ
  pub adjustment : Adjustment
  pub current : ℕ
  pub next : ℕ
  pub unit : ℕ

pub row : ℕ → ℕ → Adjustment → ℕ → ℕ → ℕ → Row
row o w a c n u = record { offset = o; wait = w; adjustment = a; current = c; next = n; unit = u }

pub rows : List Row
rows =
    row 783 2 Increment 2348 2348 2357
    ∷ row 782 2 Increment 2348 2349 2357
    ∷ row 782 2 Increment 2349 2350 2357
    ∷ row 782 2 Increment 2349 2349 2357
    ∷ row 782 2 Increment 2349 2349 2359
    ∷ row 782 2 Increment 2349 2349 2358
    ∷ row 782 2 Decrement 2349 2349 2358
    ∷ row 782 2 Nothing 2349 2349 2358
    ∷ row 782 3 Increment 2349 2349 2358
    ∷ []

pub answered : Row → ℕ
answered r =
    answer_number (answer_of (make_faults au4 (record { offset = r.offset; wait = r.wait }) r.adjustment r.current r.next r.unit))

pub unit_order : map answered rows ≡ 8 ∷ 3 ∷ 3 ∷ 1 ∷ 1 ∷ 7 ∷ 7 ∷ 0 ∷ 0 ∷ []
unfolding due answer_of answer_number number_of adjusts source_out_of_range make_faults row rows answered
unit_order = refl
