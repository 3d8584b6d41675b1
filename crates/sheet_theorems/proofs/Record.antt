-- One good record: its line is written as the grammar says, and says the record.
use mathlib.Core.Path.{◌≡◌, sym, ap, ◌∙◌}
use mathlib.Core.Bool.{true}
use mathlib.Core.List.{List, [], ◌∷◌, ◌++◌, append-nil, append_assoc}
use Prim.Native.Nat.{ℕ, ◌-◌, ◌/◌, ◌%◌, ◌<◌, ◌≤◌}
use native.Mathlib.Omega.{arith}
use lib.ListN.{length, take, drop, get_or, length-append, length-take, length-drop, take-append-drop}
use lib.Seq.{drop-cons, drop-drop, drop-length}
use Rattle.settings.specs.Settings.{trace_faults}
use Rattle.text.specs.Text.{decimal_of, hex_of}
use Rattle.text.proofs.Digits.{length_decimal}
use Rattle.records.specs.Record.{circuit_in, label_in, trace_in, flags_in}
use Rattle.digits.specs.Digits.{is_number}
use Rattle.quotes.specs.Quotes.{quote, doubled}
use Rattle.quotes.proofs.Doubling.{doubled_length}
use Rattle.sheet_line.specs.Line.{line_faults, padded, front_of, record_of}
use Rattle.record_line.specs.RecordLine.{number_and_label, characters_of, trace_and_flags, line_of}
use Rattle.exporting.specs.Export.{sheet_form}
use Rattle.sheet_line.specs.Grammar.{comma, line_with, Written}
use Rattle.sheet_theorems.proofs.Grammar.{written_accepted, number_with, label_with, characters_with, flags_with}
use Rattle.sheet_theorems.proofs.Numbers.{value_decimal, number_decimal, label_hex, value_hex}

-- ---- a record with which nothing is wrong

pub record Fair (r : List ℕ) : Type 0 where
  pub long : length r ≡ 21
  pub mark_0 : get_or r 0 0 ≡ 0x5a
  pub mark_1 : get_or r 1 0 ≡ 0x4d
  pub circuit : circuit_in r ≤ 9999
  pub trace : trace_faults (trace_in r) ≡ []
  pub flags : flags_in r ≤ 15
  pub low : get_or r 3 0 < 256
  pub label : get_or r 4 0 < 256

-- ---- the line

module _ (r : List ℕ) (f : Fair r) where
  abbrev number : List ℕ
  number = decimal_of (circuit_in r)

  abbrev label_text : List ℕ
  label_text = hex_of (label_in r)

  abbrev flags_text : List ℕ
  flags_text = decimal_of (flags_in r)

  line_with_lem : line_of sheet_form r ≡ line_with number label_text (trace_in r) flags_text
  unfolding line_of number_and_label characters_of trace_and_flags line_with
  line_with_lem = append_assoc number (comma ∷ label_text) (comma ∷ quote ∷ (doubled (trace_in r) ++ (quote ∷ comma ∷ flags_text)))

  trace_long : length (trace_in r) ≡ 15
  unfolding trace_in
  trace_long = simp (length-take, length-drop) (omega (arith, f.long))

  is_number_lem : is_number 4 number ≡ true
  is_number_lem = number_decimal 4 (circuit_in r) (omega arith) (omega (arith, f.circuit))

  small_flags : flags_in r < 100
  small_flags = omega (arith, f.flags)

  line_long : length (line_with number label_text (trace_in r) flags_text) ≤ 80
  unfolding line_with
  line_long =
      simp length-append
      (omega (arith, doubled_length (trace_in r), trace_long, length_decimal 4 (circuit_in r) (omega arith) (omega (arith, f.circuit)), length_decimal 2 (flags_in r) (omega arith) small_flags))

  small_label : label_in r < 256
  small_label = f.label

  pub line_written : Written number label_text (trace_in r) flags_text (line_of sheet_form r)
  line_written = record {
    line_is = line_with_lem;
    number_is = is_number_lem;
    label_is = label_hex (label_in r) small_label;
    flags_is = number_decimal 2 (flags_in r) (omega arith) small_flags;
    trace_short = omega (arith, trace_long);
    line_short = rw line_with_lem line_long;
  }

  -- nothing is wrong with it
  pub line_accepted : line_faults true (line_of sheet_form r) ≡ []
  line_accepted = written_accepted number label_text (trace_in r) flags_text (line_of sheet_form r) line_written

  -- ---- the record

  -- a record is its fields
  record_shape : r ≡ get_or r 0 0 ∷ get_or r 1 0 ∷ get_or r 2 0 ∷ get_or r 3 0 ∷ get_or r 4 0 ∷ (take 15 (drop 5 r) ++ (get_or r 20 0 ∷ []))
  record_shape =
      let l = f.long in
      let e : drop 21 r ≡ [] = ap (λ (n : ℕ). drop n r) (sym l) ∙ drop-length r in
      let q : drop 20 r ≡ get_or r 20 0 ∷ [] = drop-cons r 20 0 (omega arith) ∙ ap (λ (x : List ℕ). get_or r 20 0 ∷ x) e in
      let p : drop 5 r ≡ take 15 (drop 5 r) ++ (get_or r 20 0 ∷ []) = sym (take-append-drop 15 (drop 5 r)) ∙ ap (λ (x : List ℕ). take 15 (drop 5 r) ++ x) (drop-drop 15 5 r ∙ q) in
      drop-cons r 0 0 (omega arith)
      ∙ ap (λ (x : List ℕ). get_or r 0 0 ∷ x) (drop-cons r 1 0 (omega arith)
      ∙ ap (λ (x : List ℕ). get_or r 1 0 ∷ x) (drop-cons r 2 0 (omega arith)
      ∙ ap (λ (x : List ℕ). get_or r 2 0 ∷ x) (drop-cons r 3 0 (omega arith)
      ∙ ap (λ (x : List ℕ). get_or r 3 0 ∷ x) (drop-cons r 4 0 (omega arith)
      ∙ ap (λ (x : List ℕ). get_or r 4 0 ∷ x) p))))

  padded_full : padded (trace_in r) ≡ trace_in r
  unfolding padded
  padded_full = let z : 15 - length (trace_in r) ≡ 0 = omega (arith, trace_long) in rw (z, append-nil)

  high_back : circuit_in r / 256 ≡ get_or r 2 0
  unfolding circuit_in
  high_back = omega (arith, f.low)

  low_back : circuit_in r % 256 ≡ get_or r 3 0
  unfolding circuit_in
  low_back = omega (arith, f.low)

  shape : r ≡ get_or r 0 0 ∷ get_or r 1 0 ∷ get_or r 2 0 ∷ get_or r 3 0 ∷ label_in r ∷ (trace_in r ++ (flags_in r ∷ []))
  unfolding trace_in
  shape = record_shape

  pub line_says_lem : record_of (line_of sheet_form r) ≡ r
  unfolding record_of front_of
  line_says_lem =
      let t = trace_in r in
      let l = label_hex (label_in r) small_label in
      rw (
        line_with_lem,
        number_with number label_text t flags_text is_number_lem l,
        label_with number label_text t flags_text is_number_lem l,
        characters_with number label_text t flags_text is_number_lem l,
        flags_with number label_text t flags_text is_number_lem l,
        value_decimal (circuit_in r) (omega (arith, f.circuit)),
        value_decimal (flags_in r) (omega (arith, f.flags)),
        value_hex (label_in r) small_label,
        padded_full,
        high_back,
        low_back,
        ← f.mark_0,
        ← f.mark_1,
      )
      (sym shape)
