-- What the functions that write pieces of text answer and leave. No rule of 01 stands here.
use Rattle.std.specs.Prelude.{ℕ, ◌+◌, ◌≤◌, ◌≡◌, List, length}
use Rattle.copier.specs.Put.{put}
use Rattle.text.specs.Text.{decimal_of}

-- a piece was written from a place on: what the buffer holds, and the place after the piece
pub record Written (at : ℕ) (piece before after : List ℕ) (next : ℕ) : Type 0 where
  pub next_is : next ≡ at + length piece
  pub now_is : after ≡ put at piece before

-- the number x, read as n, with how many digits it has at most
pub record Short (digits x n : ℕ) : Type 0 where
  pub is : n ≡ x
  pub short : length (decimal_of n) ≤ digits

-- a piece was written, of so many bytes at most
pub record Within (most at : ℕ) (piece before after : List ℕ) (next : ℕ) : Type 0 where
  pub written : Written at piece before after next
  pub short : next ≤ at + most
