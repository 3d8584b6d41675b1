-- What the functions that read a line with which nothing is wrong ask of their callers. No rule of 02 stands here, and the promise of the import does not cite it.
use Rattle.std.specs.Prelude.{◌≡◌, ℕ, ◌≤◌, true, List, length}
use Rattle.digits.specs.Digits.{is_number, is_label}
use Rattle.sheet_line.specs.Line.{number_field, label_field, quoted, characters, flags_field}

pub record Sound (s : List ℕ) : Type 0 where
  pub number_is : is_number 4 (number_field s) ≡ true
  pub label_is : is_label (label_field s) ≡ true
  pub flags_is : is_number 2 (flags_field s) ≡ true
  pub quoted_is : quoted s ≡ true
  pub short : length (characters s) ≤ 15
