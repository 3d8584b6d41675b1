-- How many pairs of traces the check compares, of ask 13: "at most n(n-1)/2 for n records", and for which files how many. Assumes nothing.
use mathlib.Core.Path.{◌≡◌, refl, sym, ap, ◌∙◌}
use mathlib.Core.List.{List, [], ◌∷◌, ◌++◌}
use mathlib.Core.Logic.{◌⊎◌, inl, inr, ⊎_elim}
use Prim.Native.Nat.{ℕ, ◌+◌, ◌-◌, ◌*◌, ◌/◌, ◌<◌, ◌≤◌}
use native.Mathlib.Nat.{eq-or-lt_of_le}
use native.Mathlib.Omega.{arith}
use Rattle.records.specs.Fits.{Serves}
use Rattle.records.specs.Record.{Kind}
use Rattle.refusals.specs.Refusals.{Fault}
use Rattle.records.specs.Refusals.{catalogue_number}
use Rattle.records.specs.Faults.{first_fault}
use Rattle.records.specs.declared.Refusal.{Refusal}
use Rattle.records.specs.declared.Refusal.TheVariants.{Repeated}
use Rattle.pairs.proofs.Visits.{pairs_among, among_next, among_le, among_0, among_512, Found, Absent}
use Rattle.catalogue.specs.Catalogue.{records, faults_before, visit_of, faults, check_of, compared_after, pairs_of}
use Rattle.std.specs.Prelude.{Ok, Err}
use Rattle.catalogue.proofs.Answers.{good_answer, passed_records}
use Rattle.catalogue.proofs.Scan.{first_none_left}
use Rattle.catalogue.proofs.Repeats.{trace_at, traces_same, pairs_of_lem, passed_first, found_first, found_earliest, absent_first, absent_none, refused_why, pair_named}

-- ---- a file that passed the rest

module _ (kind : Kind) (s : List ℕ) (p : faults_before kind s ≡ []) where
  pairs_visit : pairs_of kind s ≡ (visit_of kind s).compared
  unfolding pairs_of compared_after
  pairs_visit = rw p

  found_pairs : (f : Found kind s 0 (records kind s)) → pairs_of kind s ≡ pairs_among f.later + f.first + 1
  unfolding visit_of
  found_pairs f = omega (arith, pairs_visit, f.count, among_0)

  absent_pairs : Absent kind s 0 (records kind s) → pairs_of kind s ≡ pairs_among (records kind s)
  unfolding visit_of
  absent_pairs a =
      let q : pairs_among (0 + records kind s) ≡ pairs_among (records kind s) = ap pairs_among (omega arith) in
      omega (arith, pairs_visit, a.count, among_0)

  passed_most : pairs_of kind s ≤ pairs_among (records kind s)
  passed_most =
      ⊎_elim
      (λ f. omega (arith, found_pairs f, f.lower, f.below, among_next f.later, among_le (f.later + 1) (records kind s) (omega (arith, f.below))))
      (λ a. omega (arith, absent_pairs a))
      (pairs_of_lem kind s)

-- ---- the theorems

-- "a catalogue refused before that reports 0": it is refused by another number than 13
pub refused_uncounted : (kind : Kind) (s : List ℕ) (x : Refusal) → check_of kind s ≡ Err x → (catalogue_number x ≡ 13 → ⊥) → pairs_of kind s ≡ 0
unfolding check_of pairs_of compared_after
refused_uncounted kind s x e d = go (faults_before kind s) refl
  where
    visited : faults_before kind s ≡ [] → first_fault (visit_of kind s).repeats ≡ Err x
    visited q = sym (passed_first kind s q) ∙ refused_why (records kind s) (first_fault (faults kind s)) x e

    go : (l : List (Fault Refusal)) → faults_before kind s ≡ l → compared_after (faults_before kind s) (visit_of kind s) ≡ 0
    go [] q =
        ⊎_elim
        (λ f. let z = sym (found_first kind s f) ∙ visited q in let y : Repeated (f.later + 1) (f.first + 1) ≡ x = cc in absurd (d (ap catalogue_number (sym y))))
        (λ a. let z = sym (absent_first kind s a) ∙ visited q in let y : ◌≡◌ {A = ℕ} 0 1 = cc in absurd (omega arith))
        (pairs_of_lem kind s)
    go (f ∷ l) q = rw q

-- refused by 13, with record `later` that repeats record `first`: all pairs of the records before the later one, and those with the later one up to the first
pub repeat_counted : (kind : Kind) (s : List ℕ) (later first : ℕ) → check_of kind s ≡ Err (Repeated later first) → pairs_of kind s ≡ (later - 1) * (later - 2) / 2 + first
unfolding pairs_among
repeat_counted kind s later first e =
    let n = pair_named kind s later first e in
    let p : later - 1 ≡ n.found.later = omega (arith, n.later_at) in
    let q : later - 2 ≡ n.found.later - 1 = omega (arith, n.later_at) in
    rw (p, q) (omega (arith, found_pairs kind s n.passed n.found, n.first_at))

-- a good catalogue of n records: all its pairs
pub good_counted : (kind : Kind) (s : List ℕ) (n : ℕ) → check_of kind s ≡ Ok n → pairs_of kind s ≡ n * (n - 1) / 2
unfolding check_of faults pairs_among
good_counted kind s n e = go (pairs_of_lem kind s)
  where
    good : (first_fault (faults_before kind s ++ (visit_of kind s).repeats) ≡ Ok tt) × (records kind s ≡ n)
    good = good_answer (records kind s) n (first_fault (faults_before kind s ++ (visit_of kind s).repeats)) e

    passed : faults_before kind s ≡ []
    passed = first_none_left (faults_before kind s) (visit_of kind s).repeats good.0

    go : Found kind s 0 (records kind s) ⊎ Absent kind s 0 (records kind s) → pairs_of kind s ≡ n * (n - 1) / 2
    go (inl f) =
        let z = sym (found_first kind s f) ∙ (rw passed at good.0) in
        let y : ◌≡◌ {A = ℕ} 0 1 = cc in
        absurd (omega arith)
    go (inr a) = rw (← good.1) (absent_pairs kind s passed a)

-- whatever the file: "at most n(n-1)/2 for n records"
pub compared_most : (kind : Kind) (s : List ℕ) → pairs_of kind s ≤ records kind s * (records kind s - 1) / 2
unfolding pairs_of compared_after pairs_among
compared_most kind s = go (faults_before kind s) refl
  where
    go : (l : List (Fault Refusal)) → faults_before kind s ≡ l → compared_after (faults_before kind s) (visit_of kind s) ≤ records kind s * (records kind s - 1) / 2
    go [] q = passed_most kind s q
    go (f ∷ l) q = rw q (omega arith)

-- so never more than the pairs of 512 records, whatever the file
pub compared_512 : (kind : Kind) (s : List ℕ) → Serves kind.length → pairs_of kind s ≤ 130816
unfolding pairs_of compared_after
compared_512 kind s f = go (faults_before kind s) refl
  where
    go : (l : List (Fault Refusal)) → faults_before kind s ≡ l → compared_after (faults_before kind s) (visit_of kind s) ≤ 130816
    go [] q = omega (arith, passed_most kind s q, among_le (records kind s) 512 (passed_records kind s f q), among_512)
    go (f ∷ l) q = rw q (omega arith)

-- two records with one trace are the last two
abbrev pub NoneButLast : Kind → List ℕ → Type 0
NoneButLast kind s =
    (i j : ℕ) → i < j → j < records kind s → trace_at kind s i ≡ trace_at kind s j → (i + 2 ≡ records kind s) × (j + 1 ≡ records kind s)

module _ (kind : Kind) (s : List ℕ) (p : faults_before kind s ≡ []) where
  found_all : (f : Found kind s 0 (records kind s)) → f.first + 2 ≡ records kind s → f.later + 1 ≡ records kind s → pairs_of kind s ≡ pairs_among (records kind s)
  found_all f h k =
      let q : pairs_among (f.later + 1) ≡ pairs_among (records kind s) = ap pairs_among k in
      omega (arith, found_pairs kind s p f, among_next f.later)

  -- the repeat is found with the last pair of all: no later record is left, and no earlier one
  later_last : (f : Found kind s 0 (records kind s)) → pairs_of kind s ≡ pairs_among (records kind s) → f.later + 1 ≡ records kind s
  later_last f e =
      ⊎_elim (λ q. q)
      (λ l. absurd (omega (arith, e, found_pairs kind s p f, f.lower, among_next f.later, among_next (f.later + 1), among_le (f.later + 1 + 1) (records kind s) (omega arith))))
      (eq-or-lt_of_le {n = f.later + 1} {m = records kind s} (omega (arith, f.below)))

  first_last : (f : Found kind s 0 (records kind s)) → pairs_of kind s ≡ pairs_among (records kind s) → f.first + 2 ≡ records kind s
  first_last f e =
      let q : pairs_among (f.later + 1) ≡ pairs_among (records kind s) = ap pairs_among (later_last f e) in
      omega (arith, e, found_pairs kind s p f, among_next f.later, later_last f e)

  -- so all pairs of a file that passed the rest are compared exactly where no two records, but perhaps the last two, have one trace
  pub all_compared : NoneButLast kind s → pairs_of kind s ≡ records kind s * (records kind s - 1) / 2
  unfolding pairs_among
  all_compared h =
      ⊎_elim
      (λ f. let l = h f.first f.later f.lower (omega (arith, f.below)) (traces_same kind s f.first f.later f.one) in found_all f l.0 l.1)
      (absent_pairs kind s p) (pairs_of_lem kind s)

  pub compared_all : pairs_of kind s ≡ records kind s * (records kind s - 1) / 2 → NoneButLast kind s
  unfolding pairs_among
  compared_all e i j h k same = ⊎_elim by_found (λ a. absurd (absent_none kind s a i j h k same)) (pairs_of_lem kind s)
    where
      by_found : Found kind s 0 (records kind s) → (i + 2 ≡ records kind s) × (j + 1 ≡ records kind s)
      by_found f =
          let at = found_earliest kind s f in
          let late : j < f.later → ⊥ = λ m. at.earliest i j h m same in
          let is : j ≡ f.later = omega (arith, later_last f e) in
          let early : i < f.first → ⊥ = λ m. at.foremost i m (rw is at same) in
          (omega (arith, first_last f e, later_last f e), omega (arith, later_last f e))
