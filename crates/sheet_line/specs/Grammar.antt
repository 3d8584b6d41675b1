-- How a line is written, of ask 1 of 02: "number, label as two hex digits, trace in double quotes, flags; a doubled quote inside stands for one".
-- This is the grammar. Line.antt takes a line apart; that it accepts what is written so, and nothing else, is proved in the crate `sheet_theorems`.
use Rattle.std.specs.Prelude.{◌≡◌, true, ℕ, ◌≤◌, List, ◌∷◌, ◌++◌, length}
use Rattle.digits.specs.Digits.{is_number, is_label}
use Rattle.quotes.specs.Quotes.{quote, doubled}

-- ,
abbrev pub comma : ℕ
comma = 0x2c

-- a line of these four fields
unfoldable pub line_with : List ℕ → List ℕ → List ℕ → List ℕ → List ℕ
line_with number label trace flags = number ++ (comma ∷ (label ++ (comma ∷ quote ∷ (doubled trace ++ (quote ∷ comma ∷ flags)))))

-- "number has one to four digits, flags one or two"; "label as two hex digits"; no trace "longer than 15"; "at most 80 bytes"
pub record Written (number label trace flags s : List ℕ) : Type 0 where
  pub line_is : s ≡ line_with number label trace flags
  pub number_is : is_number 4 number ≡ true
  pub label_is : is_label label ≡ true
  pub flags_is : is_number 2 flags ≡ true
  pub trace_short : length trace ≤ 15
  pub line_short : length s ≤ 80
