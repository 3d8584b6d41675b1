-- What the listing program prints for a catalogue, of 01: a heading and a line for each record, "number decimal, label two capital hex digits,
-- trace as it stands, flags decimal"; "a refused file prints one line: its number, then the place (13: later, then first; 9: none)".
use Rattle.std.specs.Prelude.{ℕ, ◌≤◌, ◌≡◌, false, List, [], ◌∷◌, ◌++◌, length, Result, Ok, Err}
use Rattle.copier.specs.Put.{put}
use Rattle.records.specs.Record.{Kind}
use Rattle.records.specs.Refusals.{catalogue_number, catalogue_places}
use Rattle.catalogue.specs.Catalogue.{check_of}
use Rattle.record_line.specs.RecordLine.{lines_from}
use Rattle.refusal_line.specs.RefusalLine.{refusal_line}
use Rattle.record_line.specs.declared.Form.{Form}
use Rattle.records.specs.declared.Refusal.{Refusal}

-- `circuit label trace flags`
abbrev pub heading : List ℕ
heading =
    0x63 ∷ 0x69 ∷ 0x72 ∷ 0x63 ∷ 0x75 ∷ 0x69 ∷ 0x74 ∷ 0x20
    ∷ 0x6c ∷ 0x61 ∷ 0x62 ∷ 0x65 ∷ 0x6c ∷ 0x20
    ∷ 0x74 ∷ 0x72 ∷ 0x61 ∷ 0x63 ∷ 0x65 ∷ 0x20
    ∷ 0x66 ∷ 0x6c ∷ 0x61 ∷ 0x67 ∷ 0x73 ∷ 0x0a ∷ []

-- the form of a line: blanks between, brackets around the trace, which stands as it is: `7 12 [03E5           ] 15`
abbrev pub listing_form : Form
listing_form = record { between = 0x20; opening = 0x5b; closing = 0x5d; doubles = false }

unfoldable pub text_of : Kind → List ℕ → Result ℕ Refusal → List ℕ
text_of kind s (Ok n) = heading ++ lines_from listing_form kind s 0 n
text_of kind s (Err x) = refusal_line (catalogue_number x) (catalogue_places x)

unfoldable pub listing_of : Kind → List ℕ → List ℕ
listing_of kind s = text_of kind s (check_of kind s)

-- ---- the promise

-- the listing stands at the start of the buffer, and is so many bytes long
pub record Listed (kind : Kind) (s before after : List ℕ) (n : ℕ) : Type 0 where
  pub length_is : n ≡ length (listing_of kind s)
  pub fits : n ≤ 15898
  pub now_is : after ≡ put 0 (listing_of kind s) before
