-- What a good catalogue says of each of its records. Assumes nothing.
use mathlib.Core.Path.{◌≡◌}
use mathlib.Core.Bool.{true, false, not}
use mathlib.Core.List.{List, [], ◌∷◌}
use Prim.Native.Nat.{ℕ, ◌+◌, ◌*◌, ◌<◌, ◌≤◌}
use native.Mathlib.Omega.{arith}
use lib.Dec.{eqb, ltb}
use lib.ListN.{length, get_or, length-take, length-drop}
use lib.Seq.{get_or-take, get_or-drop}
use borrow.Author.Tests.{eqb-true, ltb-false, not-false}
use Rattle.laws.proofs.Tests.{and_left, and_right, or_false}
use Rattle.refusals.specs.Refusals.{given}
use Rattle.refusals.proofs.Wrong.{due_none, due_false}
use Rattle.refusals.proofs.Joined.{joined_none, rows_none}
use Rattle.settings.specs.Settings.{label_refused, trace_faults}
use Rattle.records.specs.Record.{old_kind, record_at, marked, circuit_in, label_in, trace_in, flags_in, circuit_refused, flags_refused}
use Rattle.records.specs.Faults.{record_faults, first_fault}
use Rattle.records.specs.declared.Refusal.TheVariants.{Length, Trace}
use Rattle.catalogue.specs.Catalogue.{length_refused, faults_from, records, faults_before, visit_of, faults, check_of}
use Rattle.std.specs.Prelude.{Ok}
use Rattle.catalogue.proofs.Answers.{good_answer}
use Rattle.catalogue.proofs.Scan.{first_none}
use Rattle.sheet_theorems.proofs.Record.{Fair}

-- every element of a list of bytes is below 256
abbrev pub Bytes : List ℕ → Type 0
Bytes s = (i : ℕ) → get_or s i 0 < 256

-- nothing is wrong with a good catalogue, and it says how many records it has
pub good_none : (s : List ℕ) (n : ℕ) → check_of old_kind s ≡ Ok n → (faults old_kind s ≡ []) × (records old_kind s ≡ n)
unfolding check_of
good_none s n e =
    let g = good_answer (records old_kind s) n (first_fault (faults old_kind s)) e in
    (first_none (faults old_kind s) g.0, g.1)

-- so nothing is wrong with its records
pub good_faults : (s : List ℕ) (n : ℕ) → check_of old_kind s ≡ Ok n → faults_from old_kind s 0 n ≡ []
unfolding faults faults_before
good_faults s n e =
    let g = good_none s n e in
    let h = (joined_none (faults_before old_kind s) (visit_of old_kind s).repeats g.0).0 in
    rw (← g.1) (joined_none (given 9 Length (length_refused old_kind (length s))) (faults_from old_kind s 0 (records old_kind s)) h).1

-- ---- one record

module _ (place : ℕ) (r : List ℕ) (e : record_faults old_kind.mark place r ≡ []) where
  parts : (marked old_kind.mark r ≡ true) × ((circuit_refused (circuit_in r) ≡ false) × ((trace_faults (trace_in r) ≡ []) × (flags_refused (flags_in r) ≡ false)))
  unfolding record_faults
  parts =
      let a = due_none (not (marked old_kind.mark r)) _ _ e in
      let b = due_none (circuit_refused (circuit_in r)) _ _ a.1 in
      let c = due_none (label_refused (label_in r)) _ _ b.1 in
      let d = joined_none _ _ c.1 in
      (not-false (marked old_kind.mark r) a.0, (b.0, (rows_none (place ∷ []) (Trace place) (trace_faults (trace_in r)) d.0, due_false (flags_refused (flags_in r)) _ d.1)))

  pub mark_first : get_or r 0 0 ≡ 0x5a
  unfolding marked
  mark_first = eqb-true (get_or r 0 0) 0x5a (and_left (eqb (get_or r 0 0) 0x5a) (eqb (get_or r 1 0) 0x4d) parts.0)

  pub fair : length r ≡ 21 → get_or r 3 0 < 256 → get_or r 4 0 < 256 → Fair r
  unfolding marked circuit_refused flags_refused
  fair long low label = record {
    long = long;
    mark_0 = mark_first;
    mark_1 = eqb-true (get_or r 1 0) 0x4d (and_right (eqb (get_or r 0 0) 0x5a) (eqb (get_or r 1 0) 0x4d) parts.0);
    circuit = ltb-false 9999 (circuit_in r) (or_false (eqb (circuit_in r) 0) (ltb 9999 (circuit_in r)) parts.1.0).1;
    trace = parts.1.1.0;
    flags = ltb-false 15 (flags_in r) parts.1.1.1;
    low = low;
    label = label;
  }

-- record k of a list of bytes
low_at : (s : List ℕ) (k i : ℕ) → Bytes s → i < 21 → get_or (record_at old_kind s k) i 0 < 256
unfolding record_at
low_at s k i b l = rw (get_or-take, get_or-drop) (b (21 * k + i))

long_at : (s : List ℕ) (k : ℕ) → 21 * k + 21 ≤ length s → length (record_at old_kind s k) ≡ 21
unfolding record_at
long_at s k h = simp (length-take, length-drop) (omega arith)

pub fair_at : (s : List ℕ) (k place : ℕ) → Bytes s → 21 * k + 21 ≤ length s → record_faults old_kind.mark place (record_at old_kind s k) ≡ [] → Fair (record_at old_kind s k)
fair_at s k place b h e =
    fair place (record_at old_kind s k) e (long_at s k h) (low_at s k 3 b (omega arith)) (low_at s k 4 b (omega arith))
