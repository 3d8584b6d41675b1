-- Units of AU-4 as 01 and its table tell them, as one statement that the check computes. Assumes nothing.
use mathlib.Core.Path.{◌≡◌, refl}
use mathlib.Core.Bool.{true, false}
use mathlib.Core.List.{List, [], ◌∷◌}
use Prim.Native.Nat.{ℕ, ◌+◌, ◌*◌}
use Rattle.shape.specs.Shape.{au4, place_of, held_count, run_from}
use Rattle.shape.specs.declared.Adjustment.{Adjustment}
use Rattle.shape.specs.declared.Adjustment.TheVariants.{Nothing, Increment, Decrement}
use Rattle.cut.specs.Cut.{next_of, inside_of, begin_of, cut_of}
use Rattle.cut.specs.declared.Cut.{Cut}

-- a unit that goes on at an offset, and one that starts anew there
pub goes : Adjustment → ℕ → Cut
goes a v = cut_of au4 (held_count au4 v) (run_from au4.step a)

pub restarts : ℕ → Cut
restarts w = cut_of au4 0 (3 * au4.step + place_of au4 w)

pub units : List Cut
units =
    goes Nothing 0
    ∷ goes Nothing 1
    ∷ goes Increment 0
    ∷ goes Decrement 0
    ∷ goes Increment 782
    ∷ goes Decrement 1
    ∷ restarts 0
    ∷ restarts 522
    ∷ []

-- P1: the container ends inside, from place 9. At 1: one is completed.
-- P2: none ends, and what begins at place 12 is held. P3: one begins in H3 and ends inside, and the next begins at byte offset 2346, three bytes of it held.
-- P4: one is completed and none begun. P5: one is completed, and one ends inside, from place 9.
-- Started anew at 0: one ends inside; at 522: what begins at byte offset 1566 is held.
pub table : units
    ≡ record { kept = 0; from = 9; ends = false; next = 9; inside = true; begin = 2358; rest = 0 }
    ∷ record { kept = 2346; from = 9; ends = true; next = 12; inside = false; begin = 12; rest = 2346 }
    ∷ record { kept = 0; from = 12; ends = false; next = 12; inside = false; begin = 12; rest = 2346 }
    ∷ record { kept = 0; from = 6; ends = false; next = 6; inside = true; begin = 2355; rest = 3 }
    ∷ record { kept = 3; from = 12; ends = true; next = 2358; inside = false; begin = 2358; rest = 0 }
    ∷ record { kept = 2346; from = 6; ends = true; next = 9; inside = true; begin = 2358; rest = 0 }
    ∷ record { kept = 0; from = 9; ends = false; next = 9; inside = true; begin = 2358; rest = 0 }
    ∷ record { kept = 0; from = 1575; ends = false; next = 1575; inside = false; begin = 1575; rest = 783 }
    ∷ []
unfolding units goes restarts held_count run_from next_of inside_of begin_of cut_of
table = refl
