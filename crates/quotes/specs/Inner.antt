-- What the walk over a field answers. No rule of 01 stands here, and no public promise cites this file.
use Rattle.std.specs.Prelude.{ℕ, ◌≡◌, ◌≤◌, ◌⊎◌, List, length, get_or, drop}
use Rattle.quotes.specs.Quotes.{width_at}

-- the rest of a field says nothing: nothing is left, or the closing quote stands first
abbrev pub Closes : List ℕ → Type 0
Closes s = (length s ≡ 0) ⊎ (width_at s 0 ≡ 0)

-- it says b first, and `further` stands behind that
pub record Says (s : List ℕ) (b : ℕ) (further : List ℕ) : Type 0 where
  pub some : 1 ≤ length s
  pub wide : 1 ≤ width_at s 0
  pub first : b ≡ get_or s 0 0
  pub behind : further ≡ drop (width_at s 0) s
