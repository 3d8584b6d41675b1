-- The first places of AU-4 units at offset 1, and a run in a small shape, computed by the check: units of 12 bytes, containers of 9, with both adjustments, a request that comes too soon, and both ways over the wrap. Assumes nothing.
use mathlib.Core.Path.{◌≡◌, refl}
use mathlib.Core.Bool.{false}
use mathlib.Core.List.{List, [], ◌∷◌, map}
use Prim.Native.Nat.{ℕ}
use native.Mathlib.Omega.{arith}
use lib.ListN.{take, replicate}
use Rattle.shape.specs.Shape.{Shape, au4, Fit}
use Rattle.shape.specs.declared.Adjustment.{Adjustment}
use Rattle.shape.specs.declared.Adjustment.TheVariants.{Nothing, Increment, Decrement}
use Rattle.unit_source.specs.Source.{fresh_unit_source, unit_sent}
use Rattle.unit_source.proofs.Opened as source
use Rattle.unit_source_theorems.specs.Sending.{Sending, unit_source_called, sending_after}
use Rattle.unit_source_theorems.specs.Stream.{is_done, share_in, shares, ended, all_done, joined}

-- ---- AU-4

-- the first 13 places of a unit at offset 1, where three bytes of the current container, 11, are still to come before the next, 22
pub at_one : Adjustment → List ℕ
at_one a = take 13 (unit_sent au4 a 1 (replicate 2349 0x11) (replicate 2349 0x22))

-- H1 Y Y H2 1* 1* H3 H3 H3: "byte offsets 0 to 2 are skipped", or "the three H3 bytes carry container bytes"
pub heads : map at_one (Nothing ∷ Increment ∷ Decrement ∷ [])
    ≡ (0x68 ∷ 0x9b ∷ 0x9b ∷ 0x01 ∷ 0xff ∷ 0xff ∷ 0 ∷ 0 ∷ 0 ∷ 0x11 ∷ 0x11 ∷ 0x11 ∷ 0x22 ∷ [])
    ∷ (0x6a ∷ 0x9b ∷ 0x9b ∷ 0xab ∷ 0xff ∷ 0xff ∷ 0 ∷ 0 ∷ 0 ∷ 0 ∷ 0 ∷ 0 ∷ 0x11 ∷ [])
    ∷ (0x69 ∷ 0x9b ∷ 0x9b ∷ 0x54 ∷ 0xff ∷ 0xff ∷ 0x11 ∷ 0x11 ∷ 0x11 ∷ 0x22 ∷ 0x22 ∷ 0x22 ∷ 0x22 ∷ [])
    ∷ []
unfolding source.opened at_one
heads = refl

-- ---- a run

abbrev pub small : Shape
small = record { step = 1; size = 9; top = 8; columns = 1 }

pub small_fit : Fit small
small_fit = record { some = omega arith; fills = refl; nine = refl; two = omega arith; ten = omega arith; low = omega arith }

-- container i is nine bytes of i
pub box : ℕ → List ℕ
box i = replicate 9 i

pub fresh : Sending
fresh = record { state = fresh_unit_source; number = 0; unit = replicate 12 0 }

-- 0 up to 1, an increment too soon, 1 down to 0, 0 down to 8, 8 up to 0
pub row : List Adjustment
row = Increment ∷ Increment ∷ Nothing ∷ Nothing ∷ Nothing ∷ Decrement ∷ Nothing ∷ Nothing ∷ Nothing ∷ Decrement ∷ Nothing ∷ Nothing ∷ Nothing ∷ Increment ∷ []

-- The unit of each adjustment: the inverted word, and 00 in the skipped place, or a container byte in H3.
pub first_unit : (unit_source_called small box fresh Increment).unit ≡ 0x6a ∷ 0xaa ∷ 0 ∷ 0 ∷ replicate 8 0
unfolding source.opened box fresh
first_unit = refl

-- 13 units were made; 13 containers ended, 0 of them in the first unit and 2 in the first decrement; and the source is at 0 again
pub counted : ended small box fresh row ≡ 13
unfolding source.opened box fresh ended sending_after row
counted = refl

pub carried : shares small box fresh row ≡ joined box 0 13
unfolding source.opened box fresh ended sending_after shares share_in joined row
carried = refl

-- the second request came too soon, and was refused
pub too_soon : all_done small box fresh row ≡ false
unfolding source.opened box fresh sending_after all_done is_done row
too_soon = refl
