-- The answers of the catalogue, its import and its export as plain numbers, so that tests and benchmarks in another language can read them.
use Rattle.std.specs.Prelude.{ℕ, ◌+◌, ◌*◌, ◌%◌, List, get_or, replicate, Result, Ok, Err}
use Rattle.records.specs.Refusals.{catalogue_number, catalogue_places}
use Rattle.records.specs.declared.Refusal.{Refusal}
use Rattle.catalogue.specs.declared.Counted.{Counted}
use Rattle.catalogue.specs.declared.Entry.{Entry}
use Rattle.sheet_refusals.specs.Refusals.{import_number, import_places}
use Rattle.sheet_refusals.specs.declared.Refusal as importing-refusal

-- a number, then two places of 16 bits each, 0 where there is none
unfoldable pub packed_at : ℕ → List ℕ → ℕ
packed_at number places = number * 4294967296 + get_or places 0 0 % 65536 * 65536 + get_or places 1 0 % 65536

-- a refusal
abbrev pub packed : Refusal → ℕ
packed x = packed_at (catalogue_number x) (catalogue_places x)

-- a good catalogue: the number of its records
abbrev pub packed_checked : Result ℕ Refusal → ℕ
packed_checked (Ok n) = n
packed_checked (Err x) = packed x

-- above that, in the number's top 24 bits: how many pairs were compared
unfoldable pub packed_check : Counted → ℕ
packed_check c = c.pairs % 16777216 * 1099511627776 + packed_checked c.checked % 1099511627776

-- an entry: the label and the flags
abbrev pub packed_found : Result Entry Refusal → ℕ
packed_found (Ok e) = e.label * 256 + e.flags
packed_found (Err x) = packed x

-- its characters; 00 where there is none
abbrev pub characters_found : Result Entry Refusal → List ℕ
characters_found (Ok e) = e.trace
characters_found (Err x) = replicate 15 0

-- an import: the number of records
abbrev pub packed_imported : Result ℕ importing-refusal.Refusal → ℕ
packed_imported (Ok n) = n
packed_imported (Err x) = packed_at (import_number x) (import_places x)

-- an export: the length of the text
abbrev pub packed_exported : Result ℕ Refusal → ℕ
packed_exported (Ok n) = n
packed_exported (Err x) = packed x
