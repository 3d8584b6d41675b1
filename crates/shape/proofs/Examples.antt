-- Worked examples, computed by the check: the units about offset 0 of AU-4. Assumes nothing.
use mathlib.Core.Path.{◌≡◌, refl}
use mathlib.Core.List.{List, [], ◌∷◌, map}
use Prim.Native.Nat.{ℕ}
use Rattle.shape.specs.Shape.{au4, held_count, up_of, down_of, offset_after, run_from, ended_by}
use Rattle.shape.specs.declared.Adjustment.{Adjustment}
use Rattle.shape.specs.declared.Adjustment.TheVariants.{Nothing, Increment, Decrement}

-- a unit: what it does to the pointer, and the offset before it
pub record Before : Type 0 where
  pub adjustment : Adjustment
  pub offset : ℕ

-- what comes of it: where its run begins, how many containers end in it, the offset after it, and the bytes then under way
pub record After : Type 0 where
  pub from : ℕ
  pub ended : ℕ
  pub offset : ℕ
  pub held : ℕ

pub after_of : Before → After
after_of b =
    let to = offset_after au4.top b.adjustment b.offset in
    record { from = run_from au4.step b.adjustment; ended = ended_by b.adjustment b.offset; offset = to; held = held_count au4 to }

pub units : List Before
units =
    record { adjustment = Nothing; offset = 0 }
    ∷ record { adjustment = Nothing; offset = 1 }
    ∷ record { adjustment = Increment; offset = 0 }
    ∷ record { adjustment = Increment; offset = 782 }
    ∷ record { adjustment = Decrement; offset = 0 }
    ∷ record { adjustment = Decrement; offset = 1 }
    ∷ []

-- 0 up to 1 ends none; 782 up to 0 ends one and begins none; 0 down to 782 ends the one that begins in H3, and three bytes of the next are sent; 1 down to 0 ends two
pub about_zero : map after_of units
    ≡ record { from = 9; ended = 1; offset = 0; held = 0 }
    ∷ record { from = 9; ended = 1; offset = 1; held = 2346 }
    ∷ record { from = 12; ended = 0; offset = 1; held = 2346 }
    ∷ record { from = 12; ended = 1; offset = 0; held = 0 }
    ∷ record { from = 6; ended = 1; offset = 782; held = 3 }
    ∷ record { from = 6; ended = 2; offset = 0; held = 0 }
    ∷ []
unfolding held_count up_of down_of offset_after run_from ended_by after_of units
about_zero = refl
