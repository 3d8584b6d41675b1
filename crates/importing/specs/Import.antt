-- The import of ask 1 of 02: the lines of a text, all that is wrong with them in the order in which it is refused, the records that they say, and the answer.
-- "18 first, then line by line 15, 16, 17, and last 01's catalogue order over the result."
use Rattle.std.specs.Prelude.{ℕ, ◌+◌, ◌≡◌, Bool, true, false, cond, List, [], ◌∷◌, ◌++◌, eqb, ltb, length, Result, Ok, Err, ⊤}
use Rattle.copier.specs.Put.{put}
use Rattle.refusals.specs.Refusals.{Fault, given_at, rows_at, said_by}
use Rattle.records.specs.Record.{old_kind}
use Rattle.catalogue.specs.Catalogue.{faults, records}
use Rattle.sheet_line.specs.Line.{line_faults, record_of}
use Rattle.sheet_line.specs.declared.LineFault.{LineFault}
use Rattle.sheet_refusals.specs.Refusals.{import_says}
use Rattle.sheet_refusals.specs.declared.Refusal.{Refusal}
use Rattle.sheet_refusals.specs.declared.Refusal.TheVariants.{TooMany, Line, Catalogue}

-- ---- lines

-- "LF ends every line"
abbrev pub lf : ℕ
lf = 0x0a

-- the bytes of a line, without its LF, and whether one ends it
pub record Cut : Type 0 where
  pub bytes : List ℕ
  pub ended : Bool

abbrev pub cut : List ℕ → Bool → Cut
cut s e = record { bytes = s; ended = e }

-- a byte before all of them
unfoldable pub onto : ℕ → List Cut → List Cut
onto b [] = cut (b ∷ []) false ∷ []
onto b (l ∷ ls) = cut (b ∷ l.bytes) l.ended ∷ ls

-- the lines of a text: every LF ends one, and what stands behind the last LF, if anything, is one more
unfoldable pub lines_of : List ℕ → List Cut
lines_of [] = []
lines_of (b ∷ s) = cond (eqb b lf) (cut [] true ∷ lines_of s) (onto b (lines_of s))

-- "at most 512 lines"
abbrev pub most_lines : ℕ
most_lines = 512

-- ---- the result

-- the records of these lines, one after the other: "the result is a catalogue"
unfoldable pub records_of : List Cut → List ℕ
records_of [] = []
records_of (l ∷ ls) = record_of l.bytes ++ records_of ls

unfoldable pub result_of : List ℕ → List ℕ
result_of s = records_of (lines_of s)

-- ---- what is wrong

-- with these lines, of which the first has the place k + 1: "line by line 15, 16, 17", each naming its line
unfoldable pub faults_from : ℕ → List Cut → List (Fault Refusal)
faults_from k [] = []
faults_from k (l ∷ ls) = rows_at ((k + 1) ∷ []) (λ (x : LineFault). Line x (k + 1)) (line_faults l.ended l.bytes) ++ faults_from (k + 1) ls

-- with the text: "18 first, then line by line 15, 16, 17, and last 01's catalogue order over the result"; 18 names line 513
unfoldable pub import_faults : List ℕ → List (Fault Refusal)
import_faults s =
    given_at 18 (513 ∷ []) TooMany (ltb most_lines (length (lines_of s)))
    ++ (faults_from 0 (lines_of s)
    ++ rows_at [] Catalogue (faults old_kind (result_of s)))

-- ---- the answer

-- the first of what is wrong
unfoldable pub first_of : List (Fault Refusal) → Result ⊤ Refusal
first_of [] = Ok tt
first_of (f ∷ fs) = Err f.why

-- a good catalogue of so many records where nothing is wrong
unfoldable pub import_answer : ℕ → Result ⊤ Refusal → Result ℕ Refusal
import_answer n (Ok tt) = Ok n
import_answer n (Err x) = Err x

unfoldable pub import_of : List ℕ → Result ℕ Refusal
import_of s = import_answer (records old_kind (result_of s)) (first_of (import_faults s))

-- what the lent buffer holds: the catalogue at its start; what was refused leaves it as it was
unfoldable pub left_by : Result ℕ Refusal → List ℕ → List ℕ → List ℕ
left_by (Ok n) result before = put 0 result before
left_by (Err x) result before = before

-- what an answer says: 0 and how many records, or the refusal's number and its places
unfoldable pub imported_says : Result ℕ Refusal → List ℕ
imported_says (Ok n) = 0 ∷ n ∷ []
imported_says (Err x) = import_says x

-- ---- the promise

-- the answer says what the table says, 0 with the records where nothing is wrong; it is the import's; and the buffer holds what it leaves
pub record Imports (s before after : List ℕ) (r : Result ℕ Refusal) : Type 0 where
  pub number_is : imported_says r ≡ said_by (0 ∷ records old_kind (result_of s) ∷ []) (import_faults s)
  pub answer_is : r ≡ import_of s
  pub now_is : after ≡ left_by (import_of s) (result_of s) before
