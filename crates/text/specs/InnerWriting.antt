-- What a writer's methods ask and leave. No rule of 01 stands here.
use Rattle.std.specs.Prelude.{ℕ, ◌≡◌, ◌+◌, ◌≤◌, List, length}
use Rattle.copier.specs.Put.{put}
use Rattle.text.specs.declared.Writer.{Writer}

-- there is room for so many bytes more
abbrev pub HasRoom : ℕ → Writer → Type 0
HasRoom n w = w.at + n ≤ length w.out.now

-- a piece was written where the writer was, into the same buffer
pub record Wrote (piece : List ℕ) (old new : Writer) : Type 0 where
  pub same : new.out.ghost_name ≡ old.out.ghost_name
  pub keeps : length new.out.now ≡ length old.out.now
  pub next_is : new.at ≡ old.at + length piece
  pub now_is : new.out.now ≡ put old.at piece old.out.now

-- and it has so many bytes at most
pub record WroteWithin (most : ℕ) (piece : List ℕ) (old new : Writer) : Type 0 where
  pub same : new.out.ghost_name ≡ old.out.ghost_name
  pub keeps : length new.out.now ≡ length old.out.now
  pub next_is : new.at ≡ old.at + length piece
  pub now_is : new.out.now ≡ put old.at piece old.out.now
  pub short : new.at ≤ old.at + most
