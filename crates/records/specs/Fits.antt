-- What every `records::Kind` meets: its records hold the fields, and a file of them is not too long. It has this proof with it; a kind of specs/Record.antt need not meet it.
use Rattle.std.specs.Prelude.{ℕ, ◌*◌, ◌≤◌, ◌<◌}
use Rattle.std.proofs.Common.{lit≤, lit<}

-- the bytes in which the fields stand, the last of them the flags: at least so many has a record of any kind
abbrev pub field_bytes : ℕ
field_bytes = 21

-- a length that serves: records of it hold the fields, and the length of the longest file, of 512 records, is a number of 32 bits
pub record Serves (length : ℕ) : Type 0 where
  pub holds : field_bytes ≤ length
  pub short : 512 * length < 4294967296

-- that of 01's records, "records of 21 bytes"
pub old_serves : Serves 21
old_serves = record { holds = lit≤ tt; short = lit< tt }
