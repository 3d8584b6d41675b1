-- What the writing functions ask of the buffers. No rule of 01 stands here, and no promise of a source cites this file.
use Rattle.std.specs.Prelude.{ℕ, ◌+◌, ◌-◌, ◌*◌, ◌≤◌, List, length}

-- a run that begins in the unit, and not before H3
pub record Head (step from : ℕ) (unit : List ℕ) : Type 0 where
  pub some : 1 ≤ step
  pub behind : 2 * step ≤ from
  pub within : from ≤ length unit

-- two containers that have as many bytes as there is room for
pub record Pour (current next : List ℕ) (sent from : ℕ) (unit : List ℕ) : Type 0 where
  pub within : from ≤ length unit
  pub begun : sent ≤ length current
  pub enough : length unit - from ≤ length current - sent + length next
