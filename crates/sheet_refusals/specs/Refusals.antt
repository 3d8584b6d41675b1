-- What each refusal of an import says, of ask 1 of 02: its number, and the line that it names, counted from 1. "18 more than 512 lines" names line 513.
use Rattle.std.specs.Prelude.{ℕ, List, [], ◌∷◌}
use Rattle.records.specs.Refusals.{catalogue_number, catalogue_places}
use Rattle.sheet_line.specs.Refusals.{line_number}
use Rattle.sheet_refusals.specs.declared.Refusal.{Refusal}
use Rattle.sheet_refusals.specs.declared.Refusal.TheVariants.{TooMany, Line, Catalogue}

abbrev pub import_number : Refusal → ℕ
import_number TooMany = 18
import_number (Line x line) = line_number x
import_number (Catalogue x) = catalogue_number x

-- a refusal of the catalogue names the record, which is the line
abbrev pub import_places : Refusal → List ℕ
import_places TooMany = 513 ∷ []
import_places (Line x line) = line ∷ []
import_places (Catalogue x) = catalogue_places x

-- what is said: the number, then the places
unfoldable pub import_says : Refusal → List ℕ
import_says x = import_number x ∷ import_places x
