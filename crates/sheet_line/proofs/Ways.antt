-- What is wrong first with a line: one law for each way out of the tests. And what holds where nothing is wrong. Assumes nothing.
use mathlib.Core.Path.{◌≡◌, sym, ◌∙◌}
use mathlib.Core.Bool.{Bool, true, false, not, ◌&&◌, false≢true}
use mathlib.Core.List.{List, [], ◌∷◌, ◌++◌}
use Prim.Native.Nat.{ℕ, ◌<◌, ◌≤◌}
use lib.Dec.{leb, ltb}
use lib.ListN.{length, drop}
use borrow.Author.Tests.{lt-ltb, le-ltb, ltb-false, leb-true, not-false}
use Rattle.laws.proofs.Tests.{and_left, and_right}
use Rattle.refusals.specs.Refusals.{due, no, given}
use Rattle.refusals.proofs.Wrong.{due_none, due_false, Numbered, numbered_row, numbered_last}
use Rattle.digits.specs.Digits.{is_number, is_label}
use Rattle.quotes.specs.Quotes.{in_quotes}
use Rattle.sheet_line.specs.Line.{number_field, label_field, trace_on, quoted, characters, flags_field, well_formed, line_faults, line_judged}
use Rattle.sheet_line.specs.Refusals.{line_number}
use Rattle.sheet_line.specs.Inner.{Sound}
use Rattle.sheet_line.specs.declared.LineFault.{LineFault}
use Rattle.sheet_line.specs.declared.LineFault.TheVariants.{Malformed, Unquoted, Long}
use Rattle.std.specs.Prelude.{Ok, Err}
use Rattle.sheet_line.proofs.Fields.{count_is}

module _ (s : List ℕ) (ended w : Bool) (is-w : w ≡ well_formed s) where
  pub wrong_malformed : not (ended && w) ≡ true → Err Malformed ≡ line_judged (line_faults ended s)
  unfolding line_faults due line_judged
  wrong_malformed e = rw (← is-w, e)

  module _ (w-yes : not (ended && w) ≡ false) (q : Bool) (is-q : q ≡ quoted s) where
    pub wrong_unquoted : not q ≡ true → Err Unquoted ≡ line_judged (line_faults ended s)
    unfolding line_faults due line_judged
    wrong_unquoted e = rw (← is-w, w-yes, ← is-q, e)

    module _ (q-yes : not q ≡ false) (i : List ℕ) (is-i : i ≡ drop 1 (trace_on s)) (n : ℕ) (is-n : n ≡ length (in_quotes false i)) where
      pub wrong_long : 15 < n → Err Long ≡ line_judged (line_faults ended s)
      unfolding line_faults due line_judged
      wrong_long h = rw (← is-w, w-yes, ← is-q, not-false q q-yes, ← (count_is s i n is-i is-n), lt-ltb 15 n h)

      pub wrong_nothing : n ≤ 15 → Ok tt ≡ line_judged (line_faults ended s)
      unfolding line_faults due line_judged
      wrong_nothing h = rw (← is-w, w-yes, ← is-q, not-false q q-yes, ← (count_is s i n is-i is-n), le-ltb 15 n h)

-- ---- where nothing is wrong

module _ (ended : Bool) (s : List ℕ) (e : line_faults ended s ≡ []) where
  parts : (not (ended && well_formed s) ≡ false) × ((not (quoted s) ≡ false) × ((quoted s && ltb 15 (length (characters s))) ≡ false))
  unfolding line_faults
  parts =
      let p = due_none (not (ended && well_formed s)) (no 15 Malformed) (given 16 Unquoted (not (quoted s)) ++ given 17 Long (quoted s && ltb 15 (length (characters s)))) e in
      let q = due_none (not (quoted s)) (no 16 Unquoted) (given 17 Long (quoted s && ltb 15 (length (characters s)))) p.1 in
      (p.0, (q.0, due_false (quoted s && ltb 15 (length (characters s))) (no 17 Long) q.1))

  pub sound_ended : ended ≡ true
  sound_ended = and_left ended (well_formed s) (not-false (ended && well_formed s) parts.0)

  well : well_formed s ≡ true
  well = and_right ended (well_formed s) (not-false (ended && well_formed s) parts.0)

  in_quotes_lem : quoted s ≡ true
  in_quotes_lem = not-false (quoted s) parts.1.0

  pub sound_short : length s ≤ 80
  unfolding well_formed
  sound_short = leb-true (length s) 80 (and_left (leb (length s) 80) (is_number 4 (number_field s) && (is_label (label_field s) && is_number 2 (flags_field s))) well)

  pub sound : Sound s
  unfolding well_formed
  sound =
      let a = and_right (leb (length s) 80) (is_number 4 (number_field s) && (is_label (label_field s) && is_number 2 (flags_field s))) well in
      let b = and_right (is_number 4 (number_field s)) (is_label (label_field s) && is_number 2 (flags_field s)) a in
      record {
        number_is = and_left (is_number 4 (number_field s)) (is_label (label_field s) && is_number 2 (flags_field s)) a;
        label_is = and_left (is_label (label_field s)) (is_number 2 (flags_field s)) b;
        flags_is = and_right (is_label (label_field s)) (is_number 2 (flags_field s)) b;
        quoted_is = in_quotes_lem;
        short = ltb-false 15 (length (characters s)) (rw in_quotes_lem at parts.1.1);
      }

-- an unquoted trace is never accepted: a line in which nothing is wrong has its trace in quotes
pub unquoted_refused : (ended : Bool) (s : List ℕ) → quoted s ≡ false → line_faults ended s ≡ [] → ⊥
unquoted_refused ended s q e = false≢true (sym q ∙ (sound ended s e).quoted_is)

-- ---- numbers

-- each row of a line's table has its case's number; the line's place is the whole's
unfoldable pub line_says : LineFault → List ℕ
line_says x = line_number x ∷ []

pub line_numbered : (ended : Bool) (s : List ℕ) → Numbered line_says (line_faults ended s)
unfolding line_faults line_says line_number
line_numbered ended s = search (numbered_row, numbered_last)
