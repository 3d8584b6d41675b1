-- The export of a good catalogue and of a refused one, in a buffer of 23552 bytes.
use mathlib.Core.Path.{◌≡◌, refl, sym, ap, ◌∙◌}
use mathlib.Core.List.{List, [], ◌∷◌}
use Prim.Native.Nat.{ℕ, ◌*◌, ◌≤◌}
use native.Mathlib.Omega.{arith}
use lib.ListN.{length, take}
use lib.Seq.{length-take-le}
use Rattle.copier.specs.Put.{put}
use Rattle.copier.proofs.Put.{length_piece, put_none}
use Rattle.text.specs.Inner.{Written}
use Rattle.text.specs.declared.Writer.{Writer}
use Rattle.text.specs.InnerWriting.{HasRoom, WroteWithin}
use Rattle.text.proofs.Within.{begun, unbound}
use Rattle.refusals.specs.Refusals.{Fault, said_by}
use Rattle.refusals.proofs.Wrong.{Numbered}
use Rattle.records.specs.Fits.{old_serves}
use Rattle.records.specs.Record.{Kind, old_kind, most_records}
use Rattle.records.specs.Refusals.{catalogue_says}
use Rattle.records.specs.Faults.{first_fault}
use Rattle.std.specs.Prelude.{Result, Ok, Err}
use Rattle.records.specs.declared.Refusal.{Refusal}
use Rattle.catalogue.specs.Catalogue.{faults, records, catalogue_answer, check_of, Checks}
use Rattle.catalogue.specs.declared.Counted.{Counted}
use Rattle.catalogue.proofs.Answers.{good_length, checked_is, file_numbered}
use Rattle.record_line.specs.RecordLine.{lines_from}
use Rattle.record_line.specs.Inner.{characters_most, line_most}
use Rattle.record_line.specs.declared.Form.{Form}
use Rattle.exporting.specs.Export.{sheet_form, text_of, export_of, export_answer, exported_says, Exports}

-- a line has at most 46 bytes
line_most_lem : (form : Form) (n : ℕ) → form ≡ sheet_form → line_most form * n ≡ 46 * n
unfolding characters_most
line_most_lem form n e = rw e

-- the lines, from the start of a buffer on
module _ (form : Form) (b : List ℕ) (t : Writer) (n : ℕ) (e : form ≡ sheet_form) (h : 46 * n ≤ length b) (held : t.out.now ≡ b) (start : t.at ≡ 0) where
  pub lines_room : HasRoom (line_most form * n) t
  lines_room = omega (arith, line_most_lem form n e, ap length held, start)

  -- a is what the lent buffer holds where the writer still has it
  pub lines_written : (kind : Kind) (s a : List ℕ) (w : Writer) → (t.out.ghost_name ≡ w.out.ghost_name → a ≡ w.out.now)
      → WroteWithin (line_most form * n) (lines_from form kind s 0 n) t w → Written 0 (lines_from sheet_form kind s 0 n) b a w.at
  lines_written kind s a w held_by x = rw (held_by (sym x.same)) (begun (lines_from sheet_form kind s 0 n) b t w held start (rw e at (unbound x)))

-- the answer says what the catalogue's table says
exported_said : (m n : ℕ) (l : List (Fault Refusal)) → Numbered catalogue_says l → exported_says (export_answer m (catalogue_answer n (first_fault l))) ≡ said_by (0 ∷ m ∷ []) l
unfolding exported_says export_answer catalogue_answer first_fault said_by
exported_said m n [] _ = refl
exported_said m n (f ∷ l) (Numbered.more e _) = e

exports : (s b a : List ℕ) (r : Result ℕ Refusal) → length (export_of s) ≤ 23552 → r ≡ export_answer (length (export_of s)) (check_of old_kind s) → a ≡ put 0 (export_of s) b → Exports s b a r
unfolding check_of
exports s b a r h e f = record {
  number_is = ap exported_says e ∙ exported_said (length (export_of s)) (records old_kind s) (faults old_kind s) (file_numbered old_kind s);
  answer_is = e;
  fits = h;
  now_is = f;
}

-- c is what the check answered
module _ (s b : List ℕ) (c : Counted) (is_c : Checks old_kind s c) where
  checked_so : c.checked ≡ check_of old_kind s
  checked_so = checked_is old_kind s c is_c

  module _ (n : ℕ) (e : c.checked ≡ Ok n) (kind : Kind) (is-kind : kind ≡ old_kind) where
    whole : (length s ≡ old_kind.length * n) × (n ≤ most_records)
    whole = good_length old_kind s n old_serves (sym checked_so ∙ e)

    pub good_records : length s ≡ kind.length * n
    good_records = rw is-kind whole.0

    pub good_room : length b ≡ 23552 → 46 * n ≤ length b
    good_room l = omega (arith, whole.1)

    text_is : lines_from sheet_form kind s 0 n ≡ export_of s
    unfolding export_of text_of
    text_is = rw (is-kind, ← checked_so, e)

    pub good_exported : (a : List ℕ) (k : ℕ) → length a ≡ length b → length b ≡ 23552 → Written 0 (lines_from sheet_form kind s 0 n) b a k → Exports s b a (Ok k)
    unfolding export_answer
    good_exported a k q l w =
        let long : k ≡ length (export_of s) = w.next_is ∙ omega (arith, ap length text_is) in
        let now_is : a ≡ put 0 (export_of s) b = w.now_is ∙ ap (λ (t : List ℕ). put 0 t b) text_is in
        exports s b a (Ok k) (omega (arith, ap length now_is, length_piece b (export_of s) 0)) (rw (← checked_so, e, ← long)) now_is

  pub refused_exported : (x : Refusal) → c.checked ≡ Err x → Exports s b b (Err x)
  unfolding export_answer export_of text_of
  refused_exported x e =
      let none : export_of s ≡ [] = rw (← checked_so, e) in
      exports s b b (Err x) (omega (arith, ap length none)) (rw (← checked_so, e)) (rw none (sym (put_none b 0)))

-- ---- what a caller of the export rests on: the text of a good answer lies in the buffer

module _ (s b a : List ℕ) (r : Result ℕ Refusal) (n : ℕ) (d : Exports s b a r) (e : r ≡ Ok n) where
  text_long : n ≡ length (export_of s)
  unfolding export_answer export_of text_of
  text_long = go (check_of old_kind s) (sym e ∙ d.answer_is)
    where
      go : (c : Result ℕ Refusal) → Ok n ≡ export_answer (length (text_of s (check_of old_kind s))) c → n ≡ length (text_of s (check_of old_kind s))
      go (Ok k) f = cc
      go (Err x) f = let z : ◌≡◌ {A = ℕ} 0 1 = cc in absurd (omega arith)

  pub text_there : n ≤ length a
  text_there = omega (arith, text_long, ap length d.now_is, length_piece b (export_of s) 0)

  pub text_part : n ≡ length (take n a)
  text_part = sym (length-take-le n a text_there)
