-- The scan over the pairs of records: a turn of each loop and its ends. What was compared so far, with what is still to be visited, is the whole visit. Assumes nothing.
use mathlib.Core.Path.{◌≡◌, refl, ap, ◌∙◌}
use mathlib.Core.Bool.{Bool, true, false}
use mathlib.Core.List.{List, [], ◌++◌}
use Prim.Native.Nat.{ℕ, ◌+◌, ◌-◌, ◌<◌, ◌≤◌}
use native.Mathlib.Omega.{arith}
use Rattle.laws.proofs.Loops.{one_less, none_left, all_left}
use Rattle.trace_message.specs.Message.{alike}
use Rattle.records.specs.Record.{Kind, record_at, trace_in}
use Rattle.records.specs.Faults.{first_fault}
use Rattle.records.specs.declared.Refusal.TheVariants.{Repeated}
use Rattle.std.specs.Prelude.{Ok, Err}
use Rattle.pairs.specs.Pairs.{Pair, pairs_with, pairs_from, one_trace, repeated, Visit, one_more, visit}
use Rattle.pairs.specs.Inner.{visited_of}

pub between : (i j n : ℕ) → i < j → j < n → i < n
between i j n h k = omega arith

-- ---- one_trace

pub one_trace_lem : (kind : Kind) (s q r x y : List ℕ) (i j : ℕ) (b : Bool) → q ≡ record_at kind s i → x ≡ trace_in q → r ≡ record_at kind s j → y ≡ trace_in r → b ≡ alike x y → b ≡ one_trace kind s i j
unfolding one_trace
one_trace_lem kind s q r x y i j b is-q is_x is-r is_y is_b = is_b ∙ rw (← is-q, ← is_x, ← is-r, ← is_y)

-- ---- visit

-- k pairs were compared, none of them a repeat, and the rest of the visit v is that of these
pub record Left (kind : Kind) (s : List ℕ) (k : ℕ) (rest : List Pair) (v : Visit) : Type 0 where
  pub compared_is : k + (visit kind s rest).compared ≡ v.compared
  pub repeats_are : (visit kind s rest).repeats ≡ v.repeats

pub left_start : (kind : Kind) (s : List ℕ) (n : ℕ) → Left kind s 0 (pairs_from 0 (n - 0)) (visit kind s (pairs_from 0 n))
left_start kind s n = rw (all_left n) (record { compared_is = omega arith; repeats_are = refl })

-- another later record
pub left_later : (kind : Kind) (s : List ℕ) (n j k : ℕ) (v : Visit) → j < n → Left kind s k (pairs_from j (n - j)) v → Left kind s k (pairs_with j 0 (j - 0) ++ pairs_from (j + 1) (n - (j + 1))) v
unfolding pairs_from
left_later kind s n j k v h l = rw (all_left j) (rw (one_less j n h) at l)

-- a pair of it
module _ (kind : Kind) (s : List ℕ) (rest : List Pair) (j i k : ℕ) (v : Visit) (b : Bool) (h : i < j) (is_b : b ≡ one_trace kind s i j) (l : Left kind s k (pairs_with j i (j - i) ++ rest) v) where
  pub left_turn : b ≡ false → Left kind s (k + 1) (pairs_with j (i + 1) (j - (i + 1)) ++ rest) v
  unfolding pairs_with visit one_more
  left_turn t =
      record {
        compared_is = omega (arith, rw (one_less i j h, ← is_b, t) at l.compared_is);
        repeats_are = rw (one_less i j h, ← is_b, t) at l.repeats_are;
      }

  pub left_hit : b ≡ true → record { repeat = Err (Repeated (j + 1) (i + 1)); pairs = k + 1 } ≡ visited_of v
  unfolding pairs_with visit visited_of repeated first_fault
  left_hit t =
      let c = rw (one_less i j h, ← is_b, t) at l.compared_is in
      let r = rw (one_less i j h, ← is_b, t) at l.repeats_are in
      rw (← c, ← r)

-- the later record has been compared with all before it
pub left_next : (kind : Kind) (s : List ℕ) (rest : List Pair) (j i k : ℕ) (v : Visit) → j ≤ i → Left kind s k (pairs_with j i (j - i) ++ rest) v → Left kind s k rest v
unfolding pairs_with
left_next kind s rest j i k v h l = rw (none_left i j h) at l

pub left_end : (kind : Kind) (s : List ℕ) (n j k : ℕ) (v : Visit) → n ≤ j → Left kind s k (pairs_from j (n - j)) v → record { repeat = Ok tt; pairs = k } ≡ visited_of v
unfolding pairs_from visit visited_of first_fault
left_end kind s n j k v h l =
    let c : k + 0 ≡ v.compared = rw (none_left j n h) at l.compared_is in
    let r : [] ≡ v.repeats = rw (none_left j n h) at l.repeats_are in
    rw (← c, ← r) (ap (λ (m : ℕ). record { repeat = Ok tt; pairs = m }) (omega arith))
