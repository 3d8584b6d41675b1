-- A line is accepted exactly if it is written as ask 1 of 02 says, and then it says those four fields.
use mathlib.Core.Path.{◌≡◌, refl, sym, ap, ◌∙◌}
use mathlib.Core.Bool.{Bool, true, false, cond}
use mathlib.Core.List.{List, [], ◌∷◌, ◌++◌}
use Prim.Native.Nat.{ℕ, ◌<◌, ◌≤◌}
use native.Mathlib.Omega.{arith}
use lib.ListN.{length, drop}
use borrow.Author.Tests.{le-leb, lt-ltb, le-ltb, ne_eqb}
use Rattle.refusals.specs.Refusals.{due}
use Rattle.split.specs.Split.{up_to, past, opens}
use Rattle.digits.specs.Digits.{is_number, is_label}
use Rattle.digits.proofs.Laws.{label_length}
use Rattle.quotes.specs.Quotes.{quote, in_quotes, behind_quotes, doubled}
use Rattle.quotes.proofs.Doubling.{in_doubled, behind_doubled}
use Rattle.sheet_line.specs.Line.{number_field, label_field, trace_on, quoted, characters, behind_comma, flags_field, well_formed, line_faults, line_judged}
use Rattle.sheet_line.specs.Inner.{Sound}
use Rattle.sheet_line.specs.declared.LineFault.TheVariants.{Unquoted, Long}
use Rattle.std.specs.Prelude.{Err}
use Rattle.sheet_line.proofs.Ways.{sound, sound_short, unquoted_refused}
use Rattle.sheet_line.proofs.Writing.{number_digits, number_some}
use Rattle.sheet_line.specs.Grammar.{comma, line_with, Written}
use Rattle.sheet_theorems.proofs.Parts.{lacks, digits_lack, label_lacks, up_to_joined, past_joined, joined, opened, past_long, quoted_joined}

-- ---- a number and a label, a comma behind each, and any rest

module _ (number label rest : List ℕ) (n : is_number 4 number ≡ true) (l : is_label label ≡ true) where
  abbrev whole : List ℕ
  whole = number ++ (comma ∷ (label ++ (comma ∷ rest)))

  no_comma : lacks comma number ≡ true
  no_comma = digits_lack comma number (omega arith) (number_digits 4 number n)

  number_any : number_field whole ≡ number
  unfolding number_field
  number_any = up_to_joined comma number (label ++ (comma ∷ rest)) no_comma

  after_any : past comma whole ≡ label ++ (comma ∷ rest)
  after_any = past_joined comma number (label ++ (comma ∷ rest)) no_comma

  label_any : label_field whole ≡ label
  unfolding label_field
  label_any = ap (up_to comma) after_any ∙ up_to_joined comma label rest (label_lacks comma label (omega arith) l)

  trace_any : trace_on whole ≡ rest
  unfolding trace_on
  trace_any = ap (past comma) after_any ∙ past_joined comma label rest (label_lacks comma label (omega arith) l)

-- ---- what is written so is taken apart so

module _ (number label trace flags : List ℕ) (n : is_number 4 number ≡ true) (l : is_label label ≡ true) where
  abbrev trace_text : List ℕ
  trace_text = quote ∷ (doubled trace ++ (quote ∷ comma ∷ flags))

  pub number_with : number_field (line_with number label trace flags) ≡ number
  unfolding line_with
  number_with = number_any number label trace_text n l

  pub label_with : label_field (line_with number label trace flags) ≡ label
  unfolding line_with
  label_with = label_any number label trace_text n l

  trace_with : trace_on (line_with number label trace flags) ≡ quote ∷ (doubled trace ++ (quote ∷ comma ∷ flags))
  unfolding line_with
  trace_with = trace_any number label trace_text n l

  pub quoted_with : quoted (line_with number label trace flags) ≡ true
  unfolding quoted opens
  quoted_with = rw trace_with

  pub characters_with : characters (line_with number label trace flags) ≡ trace
  unfolding characters opens
  characters_with = rw trace_with (in_doubled trace (comma ∷ flags) refl)

  pub flags_with : flags_field (line_with number label trace flags) ≡ flags
  unfolding flags_field behind_comma opens
  flags_with = rw (quoted_with, trace_with, behind_doubled trace (comma ∷ flags) refl)

-- nothing is wrong with a line that is written so
pub written_accepted : (number label trace flags s : List ℕ) → Written number label trace flags s → line_faults true s ≡ []
unfolding line_faults well_formed due
written_accepted number label trace flags s w =
    let n = w.number_is in
    let l = w.label_is in
    let k = w.line_short in
    rw (
      le-leb (length s) 80 k,
      w.line_is,
      number_with number label trace flags n l,
      label_with number label trace flags n l,
      flags_with number label trace flags n l,
      quoted_with number label trace flags n l,
      characters_with number label trace flags n l,
      n,
      l,
      w.flags_is,
      le-ltb 15 (length trace) w.trace_short,
    )

-- ---- what is accepted is written so

module _ (ended : Bool) (s : List ℕ) (e : line_faults ended s ≡ []) where
  w : Sound s
  w = sound ended s e

  number_joined : s ≡ number_field s ++ (comma ∷ past comma s)
  unfolding number_field label_field
  number_joined = joined comma s (past_long comma 1 (past comma s) (label_length (label_field s) w.label_is))

  opens_trace : trace_on s ≡ quote ∷ drop 1 (trace_on s)
  unfolding quoted
  opens_trace = opened quote (trace_on s) w.quoted_is

  label_joined : past comma s ≡ label_field s ++ (comma ∷ trace_on s)
  unfolding label_field trace_on
  label_joined = joined comma (past comma s) (omega (arith, ap length opens_trace))

  flags_are : flags_field s ≡ behind_comma (behind_quotes false (drop 1 (trace_on s)))
  unfolding flags_field
  flags_are = rw w.quoted_is

  -- the flags are not empty, so a comma stands before them
  comma_before : behind_quotes false (drop 1 (trace_on s)) ≡ comma ∷ flags_field s
  unfolding behind_comma
  comma_before = go (opens comma (behind_quotes false (drop 1 (trace_on s)))) refl flags_are
    where
      go : (b : Bool) → opens comma (behind_quotes false (drop 1 (trace_on s))) ≡ b → flags_field s ≡ cond b (drop 1 (behind_quotes false (drop 1 (trace_on s)))) []
          → behind_quotes false (drop 1 (trace_on s)) ≡ comma ∷ flags_field s
      go true t q = opened comma (behind_quotes false (drop 1 (trace_on s))) t ∙ ap (λ (l : List ℕ). comma ∷ l) (sym q)
      go false t q = absurd (omega (arith, number_some 2 (flags_field s) w.flags_is, ap length q))

  trace_joined : drop 1 (trace_on s) ≡ doubled (characters s) ++ (quote ∷ comma ∷ flags_field s)
  unfolding characters
  trace_joined =
      quoted_joined (drop 1 (trace_on s)) (omega (arith, ap length comma_before))
      ∙ ap (λ (l : List ℕ). doubled (in_quotes false (drop 1 (trace_on s))) ++ (quote ∷ l)) comma_before

  pub accepted_written : Written (number_field s) (label_field s) (characters s) (flags_field s) s
  unfolding line_with
  accepted_written = record {
    line_is =
        number_joined
        ∙ ap (λ (l : List ℕ). number_field s ++ (comma ∷ l))
        (label_joined ∙ ap (λ (l : List ℕ). label_field s ++ (comma ∷ l)) (opens_trace ∙ ap (λ (l : List ℕ). quote ∷ l) trace_joined));
    number_is = w.number_is;
    label_is = w.label_is;
    flags_is = w.flags_is;
    trace_short = w.short;
    line_short = sound_short ended s e;
  }

bare : (field flags : List ℕ) → opens quote field ≡ false → opens quote (field ++ (comma ∷ flags)) ≡ false
unfolding opens
bare [] flags e = refl
bare (x ∷ field) flags e = e

-- ---- refusals 16 and 17, by how a line is written

-- all is well formed but the trace, which opens without a quote and "runs to the next comma": 16, whatever stands in it
pub unquoted_16 : (number label field flags : List ℕ) → is_number 4 number ≡ true → is_label label ≡ true → opens quote field ≡ false → lacks comma field ≡ true
    → is_number 2 flags ≡ true → length (number ++ (comma ∷ (label ++ (comma ∷ (field ++ (comma ∷ flags)))))) ≤ 80
    → line_judged (line_faults true (number ++ (comma ∷ (label ++ (comma ∷ (field ++ (comma ∷ flags))))))) ≡ Err Unquoted
unfolding line_faults well_formed flags_field quoted due line_judged
unquoted_16 number label field flags n l q c f k =
    let rest = field ++ (comma ∷ flags) in
    let s = number ++ (comma ∷ (label ++ (comma ∷ rest))) in
    rw (
      le-leb (length s) 80 k,
      number_any number label rest n l,
      label_any number label rest n l,
      trace_any number label rest n l,
      bare field flags q,
      past_joined comma field flags c,
      n,
      l,
      f,
    )

-- written so, but with a trace of more than 15 characters, doubled quotes made one: 17
pub long_17 : (number label trace flags : List ℕ) → is_number 4 number ≡ true → is_label label ≡ true → is_number 2 flags ≡ true → 15 < length trace
    → length (line_with number label trace flags) ≤ 80 → line_judged (line_faults true (line_with number label trace flags)) ≡ Err Long
unfolding line_faults well_formed due line_judged
long_17 number label trace flags n l f h k =
    rw (
      le-leb (length (line_with number label trace flags)) 80 k,
      number_with number label trace flags n l,
      label_with number label trace flags n l,
      flags_with number label trace flags n l,
      quoted_with number label trace flags n l,
      characters_with number label trace flags n l,
      n,
      l,
      f,
      lt-ltb 15 (length trace) h,
    )

-- ---- an unquoted trace is never accepted: behind the number and the label of an accepted line and their commas stands a quote,
-- so a line that has another byte there, whatever it is, is refused
pub unquoted_never : (ended : Bool) (number label rest : List ℕ) (x : ℕ) → is_number 4 number ≡ true → is_label label ≡ true → (x ≡ quote → ⊥)
    → line_faults ended (number ++ (comma ∷ (label ++ (comma ∷ x ∷ rest)))) ≡ [] → ⊥
unfolding quoted opens
unquoted_never ended number label rest x n l d e =
    unquoted_refused ended (number ++ (comma ∷ (label ++ (comma ∷ x ∷ rest)))) (rw (trace_any number label (x ∷ rest) n l, ne_eqb x quote d)) e
