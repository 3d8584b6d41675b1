-- A further kind of record serves as 01's does: what is proved over a kind holds of it too. Assumes nothing.
use mathlib.Core.List.{[], ◌∷◌}
use native.Mathlib.Omega.{arith}
use Rattle.records.specs.Fits.{Serves}
use Rattle.records.specs.Record.{Kind}

-- 24 bytes, 5A 4E: the fields, and three bytes more
abbrev pub longer : Kind
longer = record { length = 24; mark = 0x5a ∷ 0x4e ∷ [] }

pub longer_serves : Serves longer.length
longer_serves = record { holds = omega arith; short = omega arith }
