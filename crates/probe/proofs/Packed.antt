-- The answers packed, by what the callees answered. Assumes nothing.
use mathlib.Core.Path.{◌≡◌, refl, ap, ◌∙◌}
use mathlib.Core.Bool.{true, cond}
use mathlib.Core.List.{List, [], ◌∷◌}
use Prim.Native.Nat.{ℕ, ◌+◌, ◌*◌, ◌%◌}
use borrow.Author.Tests.{eq-eqb}
use lib.Dec.{eqb}
use lib.ListN.{length, get_or}
use Rattle.std.specs.Prelude.{Result}
use Rattle.records.specs.declared.Places.{Places}
use Rattle.records.specs.Refusals.{places_given, places_in}
use Rattle.records.specs.Record.{Kind, old_kind}
use Rattle.catalogue.specs.Catalogue.{check_of, counted_of, Checks, lookup_of, LooksUp}
use Rattle.probe.specs.Probe.{packed_at, packed_checked, packed_check, packed_found, characters_found, packed_imported, packed_exported}
use Rattle.records.specs.declared.Refusal.{Refusal}
use Rattle.catalogue.specs.declared.Counted.{Counted}
use Rattle.catalogue.specs.declared.Entry.{Entry}
use Rattle.importing.specs.Import.{import_of, result_of, left_by, Imports}
use Rattle.sheet_refusals.specs.declared.Refusal as importing-refusal
use Rattle.exporting.specs.Export.{export_of, export_answer, Exports}

-- ---- a refusal, of number n and places p: r is what was packed

-- f are the places as numbers
pub packed_of : (number n : ℕ) (places : List ℕ) (f : ℕ × ℕ) → n ≡ number → f ≡ (get_or places 0 0, get_or places 1 0) → n * 4294967296 + f.0 % 65536 * 65536 + f.1 % 65536 ≡ packed_at number places
unfolding packed_at
packed_of number n places f is-n is-f = rw (is-n, is-f)

-- both places are kept, and no more were packed
given_at : (number : ℕ) (places : List ℕ) → packed_at number (places_in (places_given places)) ≡ packed_at number places
unfolding packed_at
given_at number [] = refl
given_at number (p ∷ []) = refl
given_at number (p ∷ q ∷ more) = refl

pub packed_is : (number : ℕ) (places : List ℕ) (n r : ℕ) (p : Places) → n ≡ number → p ≡ places_given places → r ≡ packed_at n (places_in p) → r ≡ packed_at number places
packed_is number places n r p is-n is-p e = e ∙ (rw (is-n, is-p) (given_at number places))

-- ---- the check

-- c is what it answered, of which n was packed
pub check_packed : (kind : Kind) (s : List ℕ) (c : Counted) (n r : ℕ) → Checks kind s c → n ≡ packed_checked c.checked → r ≡ c.pairs % 16777216 * 1099511627776 + n % 1099511627776 → r ≡ packed_check (counted_of kind s)
unfolding packed_check
check_packed kind s c n r is_c is-n e = rw (← is_c.answer_is, ← is-n) e

-- ---- the lookup, which answered l

module _ (kind : Kind) (s : List ℕ) (number : ℕ) (l : Result Entry Refusal) (is-l : LooksUp kind s number l) where
  pub lookup_packed : (r : ℕ) → r ≡ packed_found l → r ≡ packed_found (lookup_of kind s number)
  lookup_packed r e = e ∙ ap packed_found is-l.answer_is

  pub lookup_characters : (t : List ℕ) → t ≡ characters_found l → t ≡ characters_found (lookup_of kind s number)
  lookup_characters t e = e ∙ ap characters_found is-l.answer_is

-- ---- a copy, of equal lengths

module _ (src dst : List ℕ) (h : length src ≡ length dst) where
  pub copied_yes : true ≡ eqb (length src) (length dst)
  copied_yes = rw (eq-eqb (length src) (length dst) h)

  pub copied_all : (after : List ℕ) → after ≡ src → after ≡ cond (eqb (length src) (length dst)) src dst
  copied_all after e = rw (eq-eqb (length src) (length dst) h) e

-- ---- the import, which answered i, and the export, which answered x

module _ (i : Result ℕ importing-refusal.Refusal) (s b a : List ℕ) (d : Imports s b a i) where
  pub import_packed : (r : ℕ) → r ≡ packed_imported i → r ≡ packed_imported (import_of s)
  import_packed r e = e ∙ ap packed_imported d.answer_is

  pub import_left : a ≡ left_by (import_of s) (result_of s) b
  import_left = d.now_is

pub export_packed : (x : Result ℕ Refusal) (r : ℕ) (s b a : List ℕ) → Exports s b a x → r ≡ packed_exported x → r ≡ packed_exported (export_answer (length (export_of s)) (check_of old_kind s))
export_packed x r s b a d e = e ∙ ap packed_exported d.answer_is
