-- The fields of a line as the code takes them: parts of parts.
use mathlib.Core.Path.{◌≡◌, refl, ◌∙◌}
use mathlib.Core.Bool.{Bool, true, false, ◌&&◌}
use mathlib.Core.List.{List}
use Prim.Native.Nat.{ℕ}
use native.Mathlib.Nat.{le_of_eq}
use lib.Dec.{leb}
use lib.ListN.{length, drop, drop_of_length-le}
use Rattle.split.specs.Split.{up_to, past, opens}
use Rattle.digits.specs.Digits.{is_number, is_label}
use Rattle.quotes.specs.Quotes.{quote, in_quotes, behind_quotes}
use Rattle.sheet_line.specs.Grammar.{comma}
use Rattle.sheet_line.specs.Line.{number_field, label_field, trace_on, quoted, characters, behind_comma, flags_field, well_formed}

module _ (s : List ℕ) where
  pub label_field_lem : (r l : List ℕ) → r ≡ past comma s → l ≡ up_to comma r → l ≡ label_field s
  unfolding label_field
  label_field_lem r l e f = rw e at f

  pub trace_on_lem : (r t : List ℕ) → r ≡ past comma s → t ≡ past comma r → t ≡ trace_on s
  unfolding trace_on
  trace_on_lem r t e f = rw e at f

  pub is_quoted : (t : List ℕ) (b : Bool) → t ≡ trace_on s → b ≡ opens quote t → b ≡ quoted s
  unfolding quoted
  is_quoted t b e f = rw e at f

  pub inside_is : (t r : List ℕ) → t ≡ trace_on s → r ≡ drop 1 t → r ≡ drop 1 (trace_on s)
  inside_is t r e f = rw e at f

  module _ (b : Bool) (r : List ℕ) (is_b : b ≡ opens comma s) where
    pub comma_yes : b ≡ true → r ≡ drop 1 s → r ≡ behind_comma s
    unfolding behind_comma
    comma_yes e f = f ∙ rw (← is_b, e)

    pub comma_no : b ≡ false → r ≡ drop (length s) s → r ≡ behind_comma s
    unfolding behind_comma
    comma_no e f = f ∙ drop_of_length-le s (le_of_eq refl) ∙ rw (← is_b, e)

  module _ (b : Bool) (is_b : b ≡ quoted s) where
    pub flags_quoted : (i k r : List ℕ) → b ≡ true → i ≡ drop 1 (trace_on s) → k ≡ behind_quotes false i → r ≡ behind_comma k → r ≡ flags_field s
    unfolding flags_field
    flags_quoted i k r e is-i is-k is-r = is-r ∙ rw (← is_b, e, ← is-i, ← is-k)

    pub flags_unquoted : (t r : List ℕ) → b ≡ false → t ≡ trace_on s → r ≡ past comma t → r ≡ flags_field s
    unfolding flags_field
    flags_unquoted t r e is-t is-r = is-r ∙ rw (← is_b, e, ← is-t)

  pub well_formed_lem : (n l f : List ℕ) (x y z : Bool) → n ≡ up_to comma s → x ≡ is_number 4 n → l ≡ label_field s → y ≡ is_label l → f ≡ flags_field s → z ≡ is_number 2 f
      → (leb (length s) 80 && (x && (y && z))) ≡ well_formed s
  unfolding well_formed number_field
  well_formed_lem n l f x y z is-n is_x is-l is_y is_f is-z = rw (is_x, is-n, is_y, is-l, is-z, is_f)

  pub count_is : (i : List ℕ) (n : ℕ) → i ≡ drop 1 (trace_on s) → n ≡ length (in_quotes false i) → n ≡ length (characters s)
  unfolding characters
  count_is i n e f = rw e at f
