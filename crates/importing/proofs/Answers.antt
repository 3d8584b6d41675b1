-- The ends of the import, with what the callees answered.
use mathlib.Core.Path.{◌≡◌, refl, sym, ap, ◌∙◌}
use mathlib.Core.List.{List, [], ◌∷◌, ◌++◌}
use Prim.Native.Nat.{ℕ, ◌+◌, ◌*◌, ◌<◌, ◌≤◌}
use native.Mathlib.Nat.{zero-add}
use native.Mathlib.Omega.{arith}
use lib.Dec.{ltb}
use lib.ListN.{length, take, drop}
use lib.Seq.{take_at, length-take-le}
use borrow.Author.Tests.{lt-ltb, le-ltb, ltb-false}
use Rattle.copier.specs.Put.{put}
use Rattle.copier.proofs.Put.{length_piece}
use Rattle.text.specs.Inner.{Written}
use Rattle.refusals.specs.Refusals.{Fault, due, no_at, given_at, rows_at, said_by}
use Rattle.refusals.proofs.Wrong.{due_false, Numbered, numbered_row, numbered_rows, numbered_both}
use Rattle.refusals.proofs.Joined.{joined_none, rows_none}
use Rattle.records.specs.Fits.{old_serves}
use Rattle.records.specs.Record.{old_kind}
use Rattle.records.specs.Refusals.{catalogue_says}
use Rattle.records.specs.Faults.{first_fault}
use Rattle.records.specs.declared.Refusal as records-refusal
use Rattle.records.proofs.Numbers.{behind}
use Rattle.std.specs.Prelude.{Result, Ok, Err, ⊤}
use Rattle.catalogue.specs.Catalogue.{faults, records, catalogue_answer, check_of, Checks}
use Rattle.catalogue.specs.declared.Counted.{Counted}
use Rattle.catalogue.proofs.Answers.{good_length, checked_is, file_numbered}
use Rattle.sheet_line.specs.Line.{line_faults}
use Rattle.sheet_line.specs.declared.LineFault.{LineFault}
use Rattle.sheet_line.proofs.Ways.{line_says, line_numbered}
use Rattle.importing.specs.Import.{Cut, lines_of, most_lines, faults_from, import_faults, first_of, import_answer, imported_says, result_of, import_of, left_by, Imports}
use Rattle.importing.specs.Inner.{checked_as, Made}
use Rattle.sheet_refusals.specs.Refusals.{import_says}
use Rattle.sheet_refusals.specs.declared.Refusal.{Refusal}
use Rattle.sheet_refusals.specs.declared.Refusal.TheVariants.{TooMany, Line, Catalogue}
use Rattle.importing.proofs.Faulty.{first_both, first_none, sounds_of}
use Rattle.importing.proofs.Making.{records_length}

-- ---- the catalogue, made apart

pub put_start : (p z : List ℕ) → put 0 p z ≡ p ++ drop (length p) z
unfolding put
put_start p z = rw zero-add

module _ (s z m : List ℕ) (n : ℕ) (w : Written 0 (result_of s) z m n) where
  pub made_is : take n m ≡ result_of s
  made_is = ap (take n) (w.now_is ∙ put_start (result_of s) z) ∙ take_at (result_of s) (drop (length (result_of s)) z) n (omega (arith, w.next_is))

  pub made_fits : n ≤ length m
  made_fits = omega (arith, w.next_is, ap length w.now_is, length_piece z (result_of s) 0)

  pub made_length : n ≡ length (take n m)
  made_length = sym (length-take-le n m made_fits)

  -- c is what the check answered
  module _ (c : Counted) (is_c : Checks old_kind (take n m) c) (b : List ℕ) where
    checked_so : c.checked ≡ check_of old_kind (result_of s)
    checked_so = checked_is old_kind (take n m) c is_c ∙ ap (check_of old_kind) made_is

    pub made_good : (k : ℕ) (a : List ℕ) → c.checked ≡ Ok k → a ≡ put 0 (take n m) b → Made (result_of s) b a (Ok k)
    unfolding checked_as left_by
    made_good k a e f = record { answer_is = rw (← checked_so, e); now_is = rw made_is at f }

    pub made_refused : (x : records-refusal.Refusal) → c.checked ≡ Err x → Made (result_of s) b b (Err (Catalogue x))
    unfolding checked_as left_by
    made_refused x e = record { answer_is = rw (← checked_so, e); now_is = refl }

pub copy_room : (s z m b : List ℕ) (n : ℕ) → first_of (faults_from 0 (lines_of s)) ≡ Ok tt → length (lines_of s) ≤ most_lines → Written 0 (result_of s) z m n → length b ≡ 10752 → 0 + length (take n m) ≤ length b
unfolding result_of
copy_room s z m b n w h v l = omega (arith, ap length (made_is s z m n v), records_length (lines_of s) (sounds_of s w))

-- ---- what is said

-- each row of the text's table has its case's number, and names its places
lines_numbered : (k : ℕ) (ls : List Cut) → Numbered import_says (faults_from k ls)
unfolding faults_from import_says line_says behind
lines_numbered k [] = Numbered.none
lines_numbered k (l ∷ ls) =
    numbered_both import_says _ _
    (numbered_rows line_says import_says ((k + 1) ∷ []) (λ (x : LineFault). Line x (k + 1)) (λ x n ps e. ap (behind (k + 1)) e) (line_faults l.ended l.bytes) (line_numbered l.ended l.bytes))
    (lines_numbered (k + 1) ls)

result_numbered : (s : List ℕ) → Numbered import_says (rows_at [] Catalogue (faults old_kind s))
unfolding import_says catalogue_says
result_numbered s = numbered_rows catalogue_says import_says [] Catalogue (λ x n ps e. e) (faults old_kind s) (file_numbered old_kind s)

import_numbered : (s : List ℕ) → Numbered import_says (import_faults s)
unfolding import_faults import_says
import_numbered s =
    let rest = numbered_both import_says _ _ (lines_numbered 0 (lines_of s)) (result_numbered (result_of s)) in
    search numbered_row

imported_said : (n : ℕ) (l : List (Fault Refusal)) → Numbered import_says l → imported_says (import_answer n (first_of l)) ≡ said_by (0 ∷ n ∷ []) l
unfolding imported_says import_answer first_of said_by
imported_said n [] m = refl
imported_said n (f ∷ l) (Numbered.more e m) = e

imports : (s b a : List ℕ) (r : Result ℕ Refusal) → r ≡ import_of s → a ≡ left_by r (result_of s) b → Imports s b a r
unfolding import_of
imports s b a r e f = record {
  number_is = ap imported_says e ∙ imported_said (records old_kind (result_of s)) (import_faults s) (import_numbered s);
  answer_is = e;
  now_is = rw e at f;
}

-- ---- the import

-- the catalogue's table in the text's
result_answer : (n : ℕ) (fs : List (Fault records-refusal.Refusal)) → checked_as (catalogue_answer n (first_fault fs)) ≡ import_answer n (first_of (rows_at [] Catalogue fs))
unfolding checked_as catalogue_answer first_fault import_answer first_of rows_at
result_answer n [] = refl
result_answer n (f ∷ fs) = refl

module _ (s b : List ℕ) (n : ℕ) (is-n : n ≡ length (lines_of s)) where
  many_is : most_lines < n → Err TooMany ≡ import_of s
  unfolding import_of import_faults due first_of import_answer
  many_is h = rw (← is-n, lt-ltb most_lines n h)

  pub import_many : most_lines < n → Imports s b b (Err TooMany)
  unfolding left_by
  import_many h = imports s b b (Err TooMany) (many_is h) refl

  module _ (h : n ≤ most_lines) where
    module _ (f : Result ⊤ Refusal) (is_f : f ≡ first_of (faults_from 0 (lines_of s))) where
      fault_is : (x : Refusal) → f ≡ Err x → Err x ≡ import_of s
      unfolding import_of import_faults due import_answer
      fault_is x e = rw (← is-n, le-ltb most_lines n h, first_both (faults_from 0 (lines_of s)) (rows_at [] Catalogue (faults old_kind (result_of s))) x (sym is_f ∙ e))

      pub import_fault : (x : Refusal) → f ≡ Err x → Imports s b b (Err x)
      unfolding left_by
      import_fault x e = imports s b b (Err x) (fault_is x e) refl

      made_answer : f ≡ Ok tt → checked_as (check_of old_kind (result_of s)) ≡ import_of s
      unfolding import_of import_faults due check_of
      made_answer e = rw (← is-n, le-ltb most_lines n h, first_none (faults_from 0 (lines_of s)) (sym is_f ∙ e)) (result_answer (records old_kind (result_of s)) (faults old_kind (result_of s)))

      pub import_made : (a : List ℕ) (r : Result ℕ Refusal) → f ≡ Ok tt → Made (result_of s) b a r → Imports s b a r
      import_made a r e v = imports s b a r (v.answer_is ∙ made_answer e) v.now_is

-- ---- what a caller of the import rests on

-- a good answer: nothing is wrong with the text
pub good_none : (n m : ℕ) (l : List (Fault Refusal)) → import_answer m (first_of l) ≡ Ok n → (l ≡ []) × (m ≡ n)
unfolding import_answer first_of
good_none n m [] e = (refl, cc)
good_none n m (f ∷ l) e = let z : ◌≡◌ {A = ℕ} 0 1 = cc in absurd (omega arith)

-- neither with the number of its lines, nor with one of them, nor with the catalogue
pub record Fine (s : List ℕ) (n : ℕ) : Type 0 where
  pub few_lines : length (lines_of s) ≤ most_lines
  pub lines_fine : faults_from 0 (lines_of s) ≡ []
  pub catalogue_good : check_of old_kind (result_of s) ≡ Ok n

pub good_fine : (s : List ℕ) (n : ℕ) → import_of s ≡ Ok n → Fine s n
unfolding import_of import_faults check_of first_fault catalogue_answer
good_fine s n e =
    let g = good_none n (records old_kind (result_of s)) (import_faults s) e in
    let p = joined_none (given_at 18 (513 ∷ []) TooMany (ltb most_lines (length (lines_of s)))) (faults_from 0 (lines_of s) ++ rows_at [] Catalogue (faults old_kind (result_of s))) g.0 in
    let q = joined_none (faults_from 0 (lines_of s)) (rows_at [] Catalogue (faults old_kind (result_of s))) p.1 in
    record {
      few_lines = ltb-false most_lines (length (lines_of s)) (due_false (ltb most_lines (length (lines_of s))) (no_at 18 (513 ∷ []) TooMany) p.0);
      lines_fine = q.0;
      catalogue_good = rw (rows_none [] Catalogue (faults old_kind (result_of s)) q.1, g.1);
    }

-- the records of a good answer lie in the buffer
module _ (s b a : List ℕ) (r : Result ℕ Refusal) (n : ℕ) (d : Imports s b a r) (e : r ≡ Ok n) where
  good_is : import_of s ≡ Ok n
  good_is = sym d.answer_is ∙ e

  long : (length (result_of s) ≡ old_kind.length * n) × (n ≤ 512)
  long = good_length old_kind (result_of s) n old_serves (good_fine s n good_is).catalogue_good

  pub good_fits : 21 * n ≤ 10752
  good_fits = omega (arith, long.1)

  pub good_there : 21 * n ≤ length a
  unfolding left_by
  good_there =
      let p : a ≡ put 0 (result_of s) b = rw good_is at d.now_is in
      omega (arith, long.0, ap length p, length_piece b (result_of s) 0)

  pub good_part : 21 * n ≡ length (take (21 * n) a)
  good_part = sym (length-take-le (21 * n) a good_there)
