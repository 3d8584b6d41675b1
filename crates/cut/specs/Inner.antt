-- What the code asks of a unit's bytes before it cuts them, and what it promises of the cut. No rule of 01 stands here, and no promise of the sink cites this file.
use Rattle.std.specs.Prelude.{◌≡◌, List, ℕ, ◌+◌, ◌-◌, ◌*◌, ◌≤◌, ◌<◌, length}
use Rattle.shape.specs.Shape.{Shape, Fit, unit_length}
use Rattle.cut.specs.declared.Cut.{Cut}
use Rattle.cut.specs.Cut.{cut_of, done_of, held_of}

-- a line of bytes: the run begins in the unit and not before H3, and a container begun earlier ends in the unit
pub record Line (s : Shape) (kept from : ℕ) : Type 0 where
  pub fit : Fit s
  pub behind : 2 * s.step ≤ from
  pub within : from ≤ unit_length s
  pub kept_low : kept ≤ s.size
  pub ends_within : 0 < kept → from + (s.size - kept) ≤ unit_length s

-- the lengths of the unit and of both buffers
pub record Sizes (s : Shape) (unit held done : List ℕ) : Type 0 where
  pub unit_is : length unit ≡ unit_length s
  pub held_is : length held ≡ s.size
  pub done_is : length done ≡ s.size

-- what one unit comes to: its cut, and both buffers after it
pub record Cuts (s : Shape) (kept from : ℕ) (unit held done : List ℕ) (r : Cut) (held' done' : List ℕ) : Type 0 where
  pub cut_is : r ≡ cut_of s kept from
  pub held_is : held' ≡ held_of (cut_of s kept from) unit held
  pub done_is : done' ≡ done_of s (cut_of s kept from) unit held done
