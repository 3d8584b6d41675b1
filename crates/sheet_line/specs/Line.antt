-- One line of ask 1 of 02, without the LF that ends it, taken apart: its four fields, what is wrong with it, and the catalogue's record that it says.
-- Where a comma is missing, the field behind it is empty; an empty label or flags are malformed.
use Rattle.std.specs.Prelude.{ℕ, ◌-◌, ◌/◌, ◌%◌, Bool, false, cond, not, ◌&&◌, List, [], ◌∷◌, ◌++◌, leb, ltb, length, drop, replicate, Result, Ok, Err, ⊤}
use Rattle.refusals.specs.Refusals.{Fault, given}
use Rattle.split.specs.Split.{up_to, past, opens}
use Rattle.digits.specs.Digits.{is_number, value_from, is_label, label_value}
use Rattle.quotes.specs.Quotes.{quote, in_quotes, behind_quotes}
use Rattle.records.specs.Record.{old_kind}
use Rattle.sheet_line.specs.Grammar.{comma}
use Rattle.sheet_line.specs.declared.LineFault.{LineFault}
use Rattle.sheet_line.specs.declared.LineFault.TheVariants.{Malformed, Unquoted, Long}

-- ---- the fields

-- the number, up to the first comma
unfoldable pub number_field : List ℕ → List ℕ
number_field s = up_to comma s

-- the label, from there to the next
unfoldable pub label_field : List ℕ → List ℕ
label_field s = up_to comma (past comma s)

-- the trace, and all that follows it
unfoldable pub trace_on : List ℕ → List ℕ
trace_on s = past comma (past comma s)

-- "trace in double quotes"
unfoldable pub quoted : List ℕ → Bool
quoted s = opens quote (trace_on s)

-- what a trace in quotes says; "a doubled quote inside stands for one"
unfoldable pub characters : List ℕ → List ℕ
characters s = in_quotes false (drop 1 (trace_on s))

-- behind a comma, which must follow the quote that closes
unfoldable pub behind_comma : List ℕ → List ℕ
behind_comma s = cond (opens comma s) (drop 1 s) []

-- the flags: behind the trace in quotes and its comma; "a trace field that opens without a quote runs to the next comma"
unfoldable pub flags_field : List ℕ → List ℕ
flags_field s = cond (quoted s) (behind_comma (behind_quotes false (drop 1 (trace_on s)))) (past comma (trace_on s))

-- ---- what is wrong

-- "at most 80 bytes"; "number has one to four digits, flags one or two"; "label as two hex digits"
unfoldable pub well_formed : List ℕ → Bool
well_formed s = leb (length s) 80 && (is_number 4 (number_field s) && (is_label (label_field s) && is_number 2 (flags_field s)))

-- "15 line malformed or too long, 16 trace unquoted, 17 trace longer than 15", in this order; a line that no LF ends is malformed
unfoldable pub line_faults : Bool → List ℕ → List (Fault LineFault)
line_faults ended s =
    given 15 Malformed (not (ended && well_formed s))
    ++ (given 16 Unquoted (not (quoted s))
    ++ given 17 Long (quoted s && ltb 15 (length (characters s))))

-- the first of what is wrong, which is what is answered
unfoldable pub line_judged : List (Fault LineFault) → Result ⊤ LineFault
line_judged [] = Ok tt
line_judged (f ∷ fs) = Err f.why

-- ---- the record

-- "short traces are padded with spaces"
unfoldable pub padded : List ℕ → List ℕ
padded t = t ++ replicate (15 - length t) 0x20

-- the mark, the number (two bytes, high first) and the label
unfoldable pub front_of : List ℕ → List ℕ
front_of s =
    old_kind.mark
    ++ (value_from 0 (number_field s) / 256 ∷ value_from 0 (number_field s) % 256
    ∷ label_value (label_field s) ∷ [])

-- in 01's layout
unfoldable pub record_of : List ℕ → List ℕ
record_of s = front_of s ++ (padded (characters s) ++ (value_from 0 (flags_field s) ∷ []))
