-- "Export from a catalogue and import again gives the same bytes."
use mathlib.Core.Path.{◌≡◌, refl, ap, ◌∙◌}
use mathlib.Core.Bool.{Bool, true, false, cond, not, false≢true}
use mathlib.Core.List.{List, [], ◌∷◌, ◌++◌}
use Prim.Native.Nat.{ℕ, zero, suc, ◌+◌, ◌*◌, ◌<◌, ◌≤◌}
use native.Mathlib.Omega.{arith}
use lib.Dec.{eqb}
use lib.ListN.{length, take, drop}
use lib.Seq.{take_all, take-add, drop-drop}
use borrow.Author.Tests.{le-ltb}
use Rattle.laws.proofs.Tests.{and_left, and_right}
use Rattle.refusals.specs.Refusals.{due, rows_at}
use Rattle.refusals.proofs.Joined.{joined_none}
use Rattle.settings.specs.Settings.{trace_faults}
use Rattle.settings.proofs.Passes.{by_characters}
use Rattle.text.specs.Text.{decimal_of, hex_of}
use Rattle.records.specs.Fits.{old_serves}
use Rattle.records.specs.Record.{old_kind, record_at, circuit_in, label_in, trace_in, flags_in}
use Rattle.records.specs.Faults.{record_faults}
use Rattle.std.specs.Prelude.{Ok}
use Rattle.catalogue.specs.Catalogue as catalogue
use Rattle.catalogue.specs.Catalogue.{check_of}
use Rattle.catalogue.proofs.Answers.{good_length}
use Rattle.sheet_line.specs.Grammar.{comma}
use Rattle.quotes.specs.Quotes.{quote, doubled}
use Rattle.sheet_line.specs.Line.{line_faults, record_of}
use Rattle.record_line.specs.RecordLine.{number_and_label, characters_of, trace_and_flags, line_of, lines_from}
use Rattle.exporting.specs.Export.{sheet_form, text_of, export_of}
use Rattle.importing.specs.Import.{lf, Cut, cut, onto, lines_of, most_lines, faults_from, import_faults, first_of, import_answer, records_of, result_of, import_of}
use Rattle.sheet_theorems.proofs.Parts.{lacks, lacks_both, lacks_cons, digits_lack, label_lacks}
use Rattle.sheet_theorems.proofs.Numbers.{digits_decimal, label_hex}
use Rattle.sheet_theorems.proofs.Record.{Fair, line_accepted, line_says_lem}
use Rattle.sheet_theorems.proofs.Good.{Bytes, good_none, good_faults, fair_at}

-- ---- no LF stands in a line

trace_lacks : (t : List ℕ) → trace_faults t ≡ [] → lacks lf (doubled t) ≡ true
unfolding doubled lacks
trace_lacks t e = by_characters (λ (bs : List ℕ). lacks lf (doubled bs) ≡ true) refl (λ b bs c i. go (eqb b quote) b bs c.least i) t e
  where
    go : (q : Bool) (b : ℕ) (bs : List ℕ) → 0x20 ≤ b → lacks lf (doubled bs) ≡ true → lacks lf (cond q (quote ∷ quote ∷ doubled bs) (b ∷ doubled bs)) ≡ true
    go true b bs h i = i
    go false b bs h i = lacks_cons lf b (doubled bs) (λ q. omega arith) i

small : (r : List ℕ) → Fair r → label_in r < 256
small r f = f.label

line_lacks : (r : List ℕ) → Fair r → lacks lf (line_of sheet_form r) ≡ true
unfolding line_of number_and_label characters_of trace_and_flags lacks
line_lacks r f =
    lacks_both lf (decimal_of (circuit_in r) ++ (comma ∷ hex_of (label_in r))) (comma ∷ quote ∷ (doubled (trace_in r) ++ (quote ∷ comma ∷ decimal_of (flags_in r))))
    (lacks_both lf (decimal_of (circuit_in r)) (comma ∷ hex_of (label_in r)) (digits_lack lf (decimal_of (circuit_in r)) (omega arith) (digits_decimal (circuit_in r)))
    (label_lacks lf (hex_of (label_in r)) (omega arith) (label_hex (label_in r) (small r f))))
    (lacks_both lf (doubled (trace_in r)) (quote ∷ comma ∷ decimal_of (flags_in r)) (trace_lacks (trace_in r) f.trace) (digits_lack lf (decimal_of (flags_in r)) (omega arith) (digits_decimal (flags_in r))))

-- ---- so each line is cut where its LF stands

lines_joined : (p t : List ℕ) → lacks lf p ≡ true → lines_of ((p ++ (lf ∷ [])) ++ t) ≡ cut p true ∷ lines_of t
unfolding lines_of onto lacks
lines_joined [] t e = refl
lines_joined (x ∷ p) t e =
    go (eqb x lf) (and_left (not (eqb x lf)) (lacks lf p) e) (lines_joined p t (and_right (not (eqb x lf)) (lacks lf p) e))
  where
    go : (b : Bool) → not b ≡ true → lines_of ((p ++ (lf ∷ [])) ++ t) ≡ cut p true ∷ lines_of t
        → cond b (cut [] true ∷ lines_of ((p ++ (lf ∷ [])) ++ t)) (onto x (lines_of ((p ++ (lf ∷ [])) ++ t))) ≡ cut (x ∷ p) true ∷ lines_of t
    go true n i = absurd (false≢true n)
    go false n i = rw i

-- nothing is wrong with a text of at most 512 lines, with each of them, and with the catalogue that they say
good_text : (t : List ℕ) (n : ℕ) (s : List ℕ) → length (lines_of t) ≤ most_lines → faults_from 0 (lines_of t) ≡ [] → records_of (lines_of t) ≡ s → catalogue.faults old_kind s ≡ [] → catalogue.records old_kind s ≡ n
    → import_of t ≡ Ok n
unfolding import_of import_faults result_of due rows_at first_of import_answer
good_text t n s h f r e m = rw (le-ltb most_lines (length (lines_of t)) h, f, r, e, m)

-- ---- the lines of the m records from record k on

record Same (s : List ℕ) (k m j : ℕ) (ls : List Cut) : Type 0 where
  many : length ls ≡ m
  fine : faults_from j ls ≡ []
  says : records_of ls ≡ take (21 * m) (drop (21 * k) s)

step : (s : List ℕ) (k m j : ℕ) (l : List ℕ) (ls : List Cut) → line_faults true l ≡ [] → record_of l ≡ record_at old_kind s k → Same s (k + 1) m (j + 1) ls → Same s k (suc m) j (cut l true ∷ ls)
unfolding faults_from rows_at records_of record_at
step s k m j l ls a r i =
    let q : 21 * suc m ≡ 21 + 21 * m = omega arith in
    let n : 21 * k + 21 ≡ 21 * (k + 1) = omega arith in
    record {
      many = ap suc i.many;
      fine = rw (a, i.fine);
      says = rw (r, i.says, q, take-add 21 (21 * m) (drop (21 * k) s), drop-drop 21 (21 * k) s, n);
    }

same : (s : List ℕ) (k m j : ℕ) → Bytes s → 21 * k + 21 * m ≤ length s → catalogue.faults_from old_kind s k m ≡ [] → Same s k m j (lines_of (lines_from sheet_form old_kind s k m))
unfolding catalogue.faults_from lines_from lines_of faults_from records_of
same s k zero j b h e = record { many = refl; fine = refl; says = refl }
same s k (suc m) j b h e =
    let r = record_at old_kind s k in
    let p = joined_none (record_faults old_kind.mark (k + 1) r) (catalogue.faults_from old_kind s (k + 1) m) e in
    let f = fair_at s k (k + 1) b (omega arith) p.0 in
    let i = same s (k + 1) m (j + 1) b (omega arith) p.1 in
    rw (lines_joined (line_of sheet_form r) (lines_from sheet_form old_kind s (k + 1) m) (line_lacks r f)) (step s k m j (line_of sheet_form r) (lines_of (lines_from sheet_form old_kind s (k + 1) m)) (line_accepted r f) (line_says_lem r f) i)

-- ---- the theorem

-- the text of a good catalogue is imported as good, with as many records, and what it says is the catalogue, byte for byte
pub record Back (s : List ℕ) (n : ℕ) : Type 0 where
  pub answer_is : import_of (export_of s) ≡ Ok n
  pub bytes_are : result_of (export_of s) ≡ s

pub round_trip : (s : List ℕ) (n : ℕ) → Bytes s → check_of old_kind s ≡ Ok n → Back s n
unfolding export_of text_of result_of
round_trip s n b e =
    let l = good_length old_kind s n old_serves e in
    let text = lines_from sheet_form old_kind s 0 n in
    let i = same s 0 n 0 b (omega (arith, l.0)) (good_faults s n e) in
    let r : records_of (lines_of text) ≡ s = i.says ∙ take_all (21 * n) s (omega (arith, l.0)) in
    let g = good_none s n e in
    record {
      answer_is = rw e (good_text text n s (omega (arith, i.many, l.1)) i.fine r g.0 g.1);
      bytes_are = rw e r;
    }
