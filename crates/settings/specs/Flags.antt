-- The sink's four flags out of the catalogue's one byte: 01, "Layouts".
use Rattle.std.specs.Prelude.{ℕ, ◌/◌, ◌%◌, eqb}
use Rattle.settings.specs.declared.Flags.{Flags}

-- "The sink is given its four flags as yes or no": of a record's "flags (1 monitored, 2 RDI reported, 4 SSF reported, 8 AIS reported)"
unfoldable pub flags_of : ℕ → Flags
flags_of byte = record { monitored = eqb (byte % 2) 1; rdi = eqb (byte / 2 % 2) 1; ssf = eqb (byte / 4 % 2) 1; ais = eqb (byte / 8 % 2) 1 }
