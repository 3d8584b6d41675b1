-- Where a unit can be written. No rule of 01 stands here, and no promise of the source cites this file.
use Rattle.std.specs.Prelude.{◌≡◌, ℕ, ◌≤◌}
use Rattle.shape.specs.Shape.{Shape, unit_length}

pub record Ready (s : Shape) (offset current next unit : ℕ) : Type 0 where
  pub offset_low : offset ≤ s.top
  pub current_is : current ≡ s.size
  pub next_is : next ≡ s.size
  pub unit_is : unit ≡ unit_length s
