-- The line that a program prints for a refused file is no good catalogue, whatever the refusal: it begins with a digit, and a record with its mark.
use mathlib.Core.Path.{◌≡◌, sym, ◌∙◌}
use mathlib.Core.Bool.{true}
use mathlib.Core.List.{List, [], ◌∷◌, ◌++◌}
use Prim.Native.Nat.{ℕ, zero, suc, ◌*◌, ◌≤◌}
use native.Mathlib.Omega.{arith}
use lib.ListN.{length, get_or, length-append}
use lib.Seq.{get_or-take}
use Rattle.laws.proofs.Tests.{and_left}
use Rattle.text.specs.Text.{decimal_of}
use Rattle.digits.specs.Digits.{is_digit, digits_only}
use Rattle.digits.proofs.Laws.{digit_range}
use Rattle.refusals.proofs.Joined.{joined_none}
use Rattle.records.specs.Fits.{old_serves}
use Rattle.records.specs.Record.{old_kind, record_at}
use Rattle.records.specs.Faults.{record_faults}
use Rattle.std.specs.Prelude.{Ok}
use Rattle.catalogue.specs.Catalogue.{faults_from, check_of}
use Rattle.catalogue.proofs.Answers.{good_length}
use Rattle.refusal_line.specs.RefusalLine.{blank_before, refusal_line}
use Rattle.sheet_theorems.proofs.Good.{good_faults, mark_first}
use Rattle.sheet_theorems.proofs.Numbers.{digits_decimal, decimal_some}

first_digit : (s t : List ℕ) → 1 ≤ length s → digits_only s ≡ true → get_or (s ++ t) 0 0 ≤ 0x39
unfolding digits_only
first_digit [] t h e = absurd (omega arith)
first_digit (x ∷ s) t h e = (digit_range x (and_left (is_digit x) (digits_only s) e)).1

-- a good catalogue that is not empty begins with the mark's first byte
begins : (s : List ℕ) (n : ℕ) → 1 ≤ length s → length s ≡ 21 * n → faults_from old_kind s 0 n ≡ [] → get_or s 0 0 ≡ 0x5a
unfolding faults_from record_at
begins s zero h l e = absurd (omega arith)
begins s (suc n) h l e =
    let p = joined_none (record_faults old_kind.mark 1 (record_at old_kind s 0)) (faults_from old_kind s 1 n) e in
    sym (get_or-take 21 s 0 0 (omega arith)) ∙ mark_first 1 (record_at old_kind s 0) p.0

pub never_good : (number : ℕ) (places : List ℕ) (n : ℕ) → check_of old_kind (refusal_line number places) ≡ Ok n → ⊥
unfolding refusal_line
never_good number places n e =
    let s = decimal_of number ++ (blank_before places ++ (0x0a ∷ [])) in
    let some = decimal_some number in
    let l = good_length old_kind s n old_serves e in
    let d = first_digit (decimal_of number) (blank_before places ++ (0x0a ∷ [])) some (digits_decimal number) in
    let b = begins s n (omega (arith, some, length-append (decimal_of number) (blank_before places ++ (0x0a ∷ [])))) l.0 (good_faults s n e) in
    omega (arith, d, b)
