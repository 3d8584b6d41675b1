-- The export of ask 1 of 02, the text of a catalogue: "export writes no leading zeros, capital hex and all 15 characters"; "LF ends every line".
-- "Import and export keep to the old kind", by ask 9.
use Rattle.std.specs.Prelude.{ℕ, ◌≤◌, ◌≡◌, true, List, [], ◌∷◌, length, Result, Ok, Err}
use Rattle.copier.specs.Put.{put}
use Rattle.quotes.specs.Quotes.{quote}
use Rattle.refusals.specs.Refusals.{said_by}
use Rattle.records.specs.Record.{old_kind}
use Rattle.records.specs.Refusals.{catalogue_says}
use Rattle.catalogue.specs.Catalogue.{faults, check_of}
use Rattle.record_line.specs.RecordLine.{lines_from}
use Rattle.record_line.specs.declared.Form.{Form}
use Rattle.records.specs.declared.Refusal.{Refusal}

-- the form of a line: commas between, double quotes around the trace, "a doubled quote inside": `7,12,"03E5           ",15`
abbrev pub sheet_form : Form
sheet_form = record { between = 0x2c; opening = quote; closing = quote; doubles = true }

-- a line for each record of a good catalogue; nothing for one that is refused
unfoldable pub text_of : List ℕ → Result ℕ Refusal → List ℕ
text_of s (Ok n) = lines_from sheet_form old_kind s 0 n
text_of s (Err x) = []

unfoldable pub export_of : List ℕ → List ℕ
export_of s = text_of s (check_of old_kind s)

-- how long the text is, or what the check refuses
unfoldable pub export_answer : ℕ → Result ℕ Refusal → Result ℕ Refusal
export_answer n (Ok k) = Ok n
export_answer n (Err x) = Err x

-- what an answer says: 0 and the text's length, or the refusal's number and its places
unfoldable pub exported_says : Result ℕ Refusal → List ℕ
exported_says (Ok n) = 0 ∷ n ∷ []
exported_says (Err x) = catalogue_says x

-- ---- the promise

-- the answer says what the catalogue's table says, 0 with the text's length where nothing is wrong; the text stands at the start of the buffer, which has room for it
pub record Exports (s before after : List ℕ) (r : Result ℕ Refusal) : Type 0 where
  pub number_is : exported_says r ≡ said_by (0 ∷ length (export_of s) ∷ []) (faults old_kind s)
  pub answer_is : r ≡ export_answer (length (export_of s)) (check_of old_kind s)
  pub fits : length (export_of s) ≤ 23552
  pub now_is : after ≡ put 0 (export_of s) before
