-- The listing of a good catalogue and of a refused one, in a buffer of 15898 bytes.
use mathlib.Core.Path.{◌≡◌, sym, ap, ◌∙◌}
use mathlib.Core.List.{List, ◌++◌}
use Prim.Native.Nat.{ℕ, ◌+◌, ◌*◌, ◌≤◌}
use native.Mathlib.Omega.{arith}
use lib.ListN.{length}
use Rattle.copier.proofs.Put.{length_piece}
use Rattle.text.specs.Inner.{Written, Within}
use Rattle.text.specs.declared.Writer.{Writer}
use Rattle.text.specs.InnerWriting.{HasRoom, Wrote, WroteWithin}
use Rattle.text.proofs.Pieces.{wrote_then}
use Rattle.text.proofs.Within.{begun, unbound}
use Rattle.catalogue.specs.Catalogue.{Checks}
use Rattle.records.specs.Fits.{old_serves}
use Rattle.records.specs.Record.{Kind, old_kind, most_records}
use Rattle.records.specs.declared.Refusal.{Refusal}
use Rattle.std.specs.Prelude.{Ok, Err}
use Rattle.catalogue.specs.declared.Counted.{Counted}
use Rattle.catalogue.proofs.Answers.{good_length, checked_is}
use Rattle.records.specs.declared.Places.{Places}
use Rattle.records.specs.Refusals.{catalogue_number, catalogue_places, places_given, places_in}
use Rattle.records.proofs.Numbers.{named_all}
use Rattle.record_line.specs.RecordLine.{lines_from}
use Rattle.record_line.specs.Inner.{characters_most, line_most}
use Rattle.record_line.specs.declared.Form.{Form}
use Rattle.refusal_line.specs.RefusalLine.{refusal_line}
use Rattle.listing.specs.Listing.{heading, listing_form, text_of, listing_of, Listed}

-- a line has at most 31 bytes
pub line_most_lem : (form : Form) (n : ℕ) → form ≡ listing_form → line_most form * n ≡ 31 * n
unfolding characters_most
line_most_lem form n e = rw e

-- the heading, and then the lines
module _ (form : Form) (b : List ℕ) (t u : Writer) (n : ℕ) (e : form ≡ listing_form) (h : 26 + 31 * n ≤ length b) (held : t.out.now ≡ b) (start : t.at ≡ 0) (x : Wrote heading t u) where
  pub lines_room : HasRoom (line_most form * n) u
  lines_room = omega (arith, line_most_lem form n e, x.next_is, x.keeps, ap length held, start)

  -- a is what the lent buffer holds where the writer still has it
  pub good_written : (kind : Kind) (s a : List ℕ) (w : Writer) → (t.out.ghost_name ≡ w.out.ghost_name → a ≡ w.out.now)
      → WroteWithin (line_most form * n) (lines_from form kind s 0 n) u w → Written 0 (heading ++ lines_from listing_form kind s 0 n) b a w.at
  good_written kind s a w held_by y =
      let both : Wrote (heading ++ lines_from listing_form kind s 0 n) t w = wrote_then heading (lines_from listing_form kind s 0 n) t u w (omega (arith, ap length held, start)) x (rw e at (unbound y)) in
      rw (held_by (sym both.same)) (begun (heading ++ lines_from listing_form kind s 0 n) b t w held start both)

-- what is written is no longer than the buffer, which keeps its length
listed : (kind : Kind) (s t b a : List ℕ) (e : ℕ) → t ≡ listing_of kind s → length a ≡ length b → length b ≡ 15898 → Written 0 t b a e → Listed kind s b a e
listed kind s t b a e t-is k l w =
    record {
      length_is = w.next_is ∙ omega (arith, ap length t-is);
      fits = omega (arith, length_piece b t 0, ap length w.now_is, w.next_is);
      now_is = rw t-is at w.now_is;
    }

-- c is what the check answered, of the kind that 01 has
module _ (s : List ℕ) (c : Counted) (is_c : Checks old_kind s c) where
  module _ (n : ℕ) (e : c.checked ≡ Ok n) where
    whole : (length s ≡ old_kind.length * n) × (n ≤ most_records)
    whole = good_length old_kind s n old_serves (sym (checked_is old_kind s c is_c) ∙ e)

    pub good_room : (b : List ℕ) → length b ≡ 15898 → 26 + 31 * n ≤ length b
    good_room b l = omega (arith, whole.1)

    -- the kind as it was read
    module _ (kind : Kind) (is-kind : kind ≡ old_kind) where
      pub good_records : length s ≡ kind.length * n
      good_records = rw is-kind whole.0

      pub good_listed : (b a : List ℕ) (k : ℕ) → length a ≡ length b → length b ≡ 15898 → Written 0 (heading ++ lines_from listing_form kind s 0 n) b a k → Listed old_kind s b a k
      unfolding listing_of text_of
      good_listed b a k q l w = listed old_kind s (heading ++ lines_from listing_form kind s 0 n) b a k (rw (← (checked_is old_kind s c is_c), e, is-kind)) q l w

  pub refused_listed : (x : Refusal) (p : Places) → c.checked ≡ Err x → p ≡ places_given (catalogue_places x) → (number : ℕ) → number ≡ catalogue_number x
      → (b a : List ℕ) (k : ℕ) → length a ≡ length b → length b ≡ 15898 → Within 46 0 (refusal_line number (places_in p)) b a k → Listed old_kind s b a k
  unfolding listing_of text_of
  refused_listed x p e is-p number is-n b a k q l w =
      listed old_kind s (refusal_line number (places_in p)) b a k (rw (← (checked_is old_kind s c is_c), e, is-n, named_all x p is-p)) q l w.written
