-- The shape of a unit and of the containers in it, and what an adjustment does to them: 01, "Layouts" and "Reading one pointer word".
-- AU-4 with its VC-4 is one shape; TU-3 with its VC-3 is another of the same form.
use Rattle.std.specs.Prelude.{◌≡◌, ℕ, ◌+◌, ◌-◌, ◌*◌, ◌≤◌, ◌<◌, cond, eqb, ltb}
use Rattle.shape.specs.declared.Adjustment.{Adjustment}
use Rattle.shape.specs.declared.Adjustment.TheVariants.{Nothing, Increment, Decrement}

-- A shape: any four numbers. Those of a `shape::Shape` (`numbers`, in Numbers.antt) fit each other.
pub record Shape : Type 0 where
  pub step : ℕ
  pub size : ℕ
  pub top : ℕ
  pub columns : ℕ

-- "a container (VC-4) is 9 rows of 261 bytes, 2349 in all"; "value 0 to 782; J1 stands at offset 3 times the value"
abbrev pub au4 : Shape
au4 = record { step = 3; size = 2349; top = 782; columns = 261 }

-- a VC-3, "85 columns by 9, 765 bytes", in a TU-3, where "the value runs 0 to 764 counting single bytes": no function takes it yet, and the theorems hold of it too
abbrev pub tu3 : Shape
tu3 = record { step = 1; size = 765; top = 764; columns = 85 }

-- A shape that fits: its values, a step of bytes each, fill the container, and so do its nine rows. There is more than one value, and a value has ten bits.
pub record Fit (s : Shape) : Type 0 where
  pub some : 1 ≤ s.step
  pub fills : s.size ≡ s.step * (s.top + 1)
  pub nine : s.size ≡ 9 * s.columns
  pub two : 2 * s.step ≤ s.size
  pub ten : s.top < 1024
  pub low : s.size < 4294967296

-- ---- places

-- "a unit is 2358 bytes: H1 Y Y H2 1* 1* H3 H3 H3, then 2349 bytes": three groups of a step, and a container's size
abbrev pub unit_length : Shape → ℕ
unit_length s = 3 * s.step + s.size

-- "J1 stands at offset 3 times the value": the place of a value, counted from byte offset 0
abbrev pub place_of : Shape → ℕ → ℕ
place_of s value = s.step * value

-- "2349 minus 3 times the offset, or 0 at offset 0": the bytes of the container under way, sent before a unit at this offset, or held by a sink there
unfoldable pub held_count : Shape → ℕ → ℕ
held_count s offset = cond (eqb offset 0) 0 (s.size - place_of s offset)

-- ---- adjustments

-- "782 goes up to 0, and 0 down to 782"
unfoldable pub up_of : ℕ → ℕ → ℕ
up_of top offset = cond (ltb offset top) (offset + 1) 0

unfoldable pub down_of : ℕ → ℕ → ℕ
down_of top offset = cond (eqb offset 0) top (offset - 1)

-- "a new offset holds in the same unit"
unfoldable pub offset_after : ℕ → Adjustment → ℕ → ℕ
offset_after top Nothing offset = offset
offset_after top Increment offset = up_of top offset
offset_after top Decrement offset = down_of top offset

-- Where the run of container bytes begins in the unit: at byte offset 0; "in an increment unit byte offsets 0 to 2 are skipped";
-- "in a decrement unit the three H3 bytes carry container bytes"
unfoldable pub run_from : ℕ → Adjustment → ℕ
run_from step Nothing = 3 * step
run_from step Increment = 4 * step
run_from step Decrement = 2 * step

-- How many containers end in the unit, by the offset before it: one; none from 0 up to 1; two from 1 down to 0
unfoldable pub ended_by : Adjustment → ℕ → ℕ
ended_by Nothing offset = 1
ended_by Increment offset = cond (eqb offset 0) 0 1
ended_by Decrement offset = cond (eqb offset 1) 2 1
