-- What a visit of all pairs of n records comes to: it stops at the earliest later record that repeats a trace, with the first record that has it, or goes to the end;
-- and how many pairs it compared. Records are counted from 0. Assumes nothing.
use mathlib.Core.Path.{◌≡◌, refl, ap, ◌∙◌}
use mathlib.Core.Bool.{Bool, true, false}
use mathlib.Core.List.{List, [], ◌∷◌, ◌++◌}
use mathlib.Core.Logic.{◌⊎◌, inl, inr, ⊎_elim}
use Prim.Native.Nat.{ℕ, zero, suc, ◌+◌, ◌-◌, ◌*◌, ◌/◌, ◌<◌, ◌≤◌}
use native.Mathlib.Nat.{eq-or-lt_of_le}
use native.Mathlib.Omega.{arith}
use Rattle.records.specs.Record.{Kind}
use Rattle.pairs.specs.Pairs.{Pair, pairs_with, pairs_from, one_trace, repeated, one_more, visit}

-- ---- how many pairs n records have

unfoldable pub pairs_among : ℕ → ℕ
pairs_among n = n * (n - 1) / 2

-- a record more makes a pair with each before it
pub among_next : (n : ℕ) → pairs_among (n + 1) ≡ pairs_among n + n
unfolding pairs_among
among_next zero = refl
among_next (suc n) =
    let p : suc n + 1 - 1 ≡ suc n = omega arith in
    let q : suc n - 1 ≡ n = omega arith in
    rw (p, q) (omega arith)

-- more records have more pairs
among_more : (m n : ℕ) → pairs_among m ≤ pairs_among (m + n)
among_more m zero = let q : pairs_among (m + 0) ≡ pairs_among m = ap pairs_among (omega arith) in omega arith
among_more m (suc n) =
    let q : pairs_among (m + suc n) ≡ pairs_among (m + n + 1) = ap pairs_among (omega arith) in
    omega (arith, among_more m n, among_next (m + n))

pub among_le : (m n : ℕ) → m ≤ n → pairs_among m ≤ pairs_among n
among_le m n h =
    let q : pairs_among (m + (n - m)) ≡ pairs_among n = ap pairs_among (omega arith) in
    omega (arith, among_more m (n - m))

pub among_0 : pairs_among 0 ≡ 0
unfolding pairs_among
among_0 = refl

pub among_512 : pairs_among 512 ≡ 130816
unfolding pairs_among
among_512 = refl

-- ---- numbers from a place on

-- what holds at i, and from i + 1 on, holds from i on
from_here : (P : ℕ → Type 0) (i e : ℕ) → P i → ((a : ℕ) → i + 1 ≤ a → a < e → P a) → (a : ℕ) → i ≤ a → a < e → P a
from_here P i e p rest a h k = ⊎_elim (λ q. rw q at p) (λ l. rest a (omega arith) k) (eq-or-lt_of_le h)

-- ---- one later record, with the earlier ones

-- of the n records from i on, record k is the first whose trace record j repeats, and there the visit stops
record Hit (kind : Kind) (s : List ℕ) (j i n : ℕ) (rest : List Pair) : Type 0 where
  k : ℕ
  from : i ≤ k
  below : k < i + n
  one : one_trace kind s k j ≡ true
  before : (a : ℕ) → i ≤ a → a < k → one_trace kind s a j ≡ false
  count : i + (visit kind s (pairs_with j i n ++ rest)).compared ≡ k + 1
  stops : (visit kind s (pairs_with j i n ++ rest)).repeats ≡ repeated (record { later = j; first = k }) ∷ []

-- or it repeats none of them, and the visit goes on
record Past (kind : Kind) (s : List ℕ) (j i n : ℕ) (rest : List Pair) : Type 0 where
  none : (a : ℕ) → i ≤ a → a < i + n → one_trace kind s a j ≡ false
  count : (visit kind s (pairs_with j i n ++ rest)).compared ≡ n + (visit kind s rest).compared
  goes_on : (visit kind s (pairs_with j i n ++ rest)).repeats ≡ (visit kind s rest).repeats

module _ (kind : Kind) (s : List ℕ) (j : ℕ) (rest : List Pair) where
  row_more : (i n : ℕ) (b : Bool) → one_trace kind s i j ≡ b → Hit kind s j (i + 1) n rest ⊎ Past kind s j (i + 1) n rest → Hit kind s j i (suc n) rest ⊎ Past kind s j i (suc n) rest
  unfolding pairs_with visit one_more
  row_more i n true t r =
      inl (record { k = i; from = omega arith; below = omega arith; one = t; before = λ a p q. absurd (omega arith); count = rw t; stops = rw t })
  row_more i n false t (inl h) =
      inl
      (record {
        k = h.k;
        from = omega arith;
        below = omega arith;
        one = h.one;
        before = from_here (λ (a : ℕ). one_trace kind s a j ≡ false) i h.k t h.before;
        count = rw t (omega (arith, h.count));
        stops = rw t h.stops;
      })
  row_more i n false t (inr p) =
      inr
      (record {
        none = λ a l m. from_here (λ (a : ℕ). one_trace kind s a j ≡ false) i (i + 1 + n) t p.none a l (omega arith);
        count = rw t (omega (arith, p.count));
        goes_on = rw t p.goes_on;
      })

  row : (i n : ℕ) → Hit kind s j i n rest ⊎ Past kind s j i n rest
  unfolding pairs_with
  row i zero = inr (record { none = λ a h k. absurd (omega arith); count = omega arith; goes_on = refl })
  row i (suc n) = row_more i n (one_trace kind s i j) refl (row (i + 1) n)

-- ---- every later record

-- of the n records from j on, `later` is the earliest that repeats a trace, `first` has it first, and there the visit stops
pub record Found (kind : Kind) (s : List ℕ) (j n : ℕ) : Type 0 where
  pub later : ℕ
  pub first : ℕ
  pub from : j ≤ later
  pub below : later < j + n
  pub lower : first < later
  pub one : one_trace kind s first later ≡ true
  pub before : (b : ℕ) → j ≤ b → b < later → (a : ℕ) → a < b → one_trace kind s a b ≡ false
  pub foremost : (a : ℕ) → a < first → one_trace kind s a later ≡ false
  pub count : pairs_among j + (visit kind s (pairs_from j n)).compared ≡ pairs_among later + first + 1
  pub stops : (visit kind s (pairs_from j n)).repeats ≡ repeated (record { later = later; first = first }) ∷ []

-- or none of them repeats a trace, and the visit goes to the end
pub record Absent (kind : Kind) (s : List ℕ) (j n : ℕ) : Type 0 where
  pub none : (b : ℕ) → j ≤ b → b < j + n → (a : ℕ) → a < b → one_trace kind s a b ≡ false
  pub count : pairs_among j + (visit kind s (pairs_from j n)).compared ≡ pairs_among (j + n)
  pub ends : (visit kind s (pairs_from j n)).repeats ≡ []

module _ (kind : Kind) (s : List ℕ) where
  scan_more : (j n : ℕ) → Hit kind s j 0 j (pairs_from (j + 1) n) ⊎ Past kind s j 0 j (pairs_from (j + 1) n) → Found kind s (j + 1) n ⊎ Absent kind s (j + 1) n → Found kind s j (suc n) ⊎ Absent kind s j (suc n)
  unfolding pairs_from
  scan_more j n (inl h) r =
      inl
      (record {
        later = j;
        first = h.k;
        from = omega arith;
        below = omega arith;
        lower = omega arith;
        one = h.one;
        before = λ b p q. absurd (omega arith);
        foremost = λ a l. h.before a (omega arith) l;
        count = omega (arith, h.count);
        stops = h.stops;
      })
  scan_more j n (inr p) (inl f) =
      inl
      (record {
        later = f.later;
        first = f.first;
        from = omega arith;
        below = omega arith;
        lower = f.lower;
        one = f.one;
        before = from_here (λ (b : ℕ). (a : ℕ) → a < b → one_trace kind s a b ≡ false) j f.later (λ a l. p.none a (omega arith) (omega arith)) f.before;
        foremost = f.foremost;
        count = omega (arith, p.count, f.count, among_next j);
        stops = p.goes_on ∙ f.stops;
      })
  scan_more j n (inr p) (inr e) =
      inr
      (record {
        none = λ b l m. from_here (λ (b : ℕ). (a : ℕ) → a < b → one_trace kind s a b ≡ false) j (j + 1 + n) (λ a k. p.none a (omega arith) (omega arith)) e.none b l (omega arith);
        count = let q : pairs_among (j + suc n) ≡ pairs_among (j + 1 + n) = ap pairs_among (omega arith) in omega (arith, p.count, e.count, among_next j);
        ends = p.goes_on ∙ e.ends;
      })

  pub scan : (j n : ℕ) → Found kind s j n ⊎ Absent kind s j n
  unfolding pairs_from visit
  scan j zero =
      inr
      (record {
        none = λ b h k. absurd (omega arith);
        count = let q : pairs_among (j + 0) ≡ pairs_among j = ap pairs_among (omega arith) in omega arith;
        ends = refl;
      })
  scan j (suc n) = scan_more j n (row kind s j (pairs_from (j + 1) n) 0 j) (scan (j + 1) n)
