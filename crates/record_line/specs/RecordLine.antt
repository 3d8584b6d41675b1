-- A record as a line of text: "number decimal, label two capital hex digits, trace as it stands, flags decimal", of 01's listing, and the same four in the lines of ask 1 of 02.
-- The two differ in what stands between the fields and around the trace, which is a form.
use Rattle.std.specs.Prelude.{ℕ, zero, suc, ◌+◌, cond, List, [], ◌∷◌, ◌++◌}
use Rattle.text.specs.Text.{decimal_of, hex_of}
use Rattle.quotes.specs.Quotes.{doubled}
use Rattle.records.specs.Record.{Kind, record_at, circuit_in, label_in, trace_in, flags_in}
use Rattle.record_line.specs.declared.Form.{Form}

-- number and label: `7 12`, `7,12`
unfoldable pub number_and_label : Form → List ℕ → List ℕ
number_and_label form r = decimal_of (circuit_in r) ++ (form.between ∷ hex_of (label_in r))

-- the characters: as they stand, or each quote doubled
unfoldable pub characters_of : Form → List ℕ → List ℕ
characters_of form t = cond form.doubles (doubled t) t

-- trace and flags: `[03E5           ] 15`, `"03E5           ",15`
unfoldable pub trace_and_flags : Form → List ℕ → List ℕ
trace_and_flags form r = form.opening ∷ (characters_of form (trace_in r) ++ (form.closing ∷ form.between ∷ decimal_of (flags_in r)))

-- a record's line, without the LF that ends it
unfoldable pub line_of : Form → List ℕ → List ℕ
line_of form r = number_and_label form r ++ (form.between ∷ trace_and_flags form r)

-- the lines of the n records from record k on, an LF behind each
unfoldable pub lines_from : Form → Kind → List ℕ → ℕ → ℕ → List ℕ
lines_from form kind s k zero = []
lines_from form kind s k (suc n) = (line_of form (record_at kind s k) ++ (0x0a ∷ [])) ++ lines_from form kind s (k + 1) n
