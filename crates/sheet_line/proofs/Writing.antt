-- The record that a line says, piece by piece.
use mathlib.Core.Path.{◌≡◌, refl, ap}
use mathlib.Core.Bool.{true, false, ◌&&◌}
use mathlib.Core.List.{List, [], ◌∷◌, ◌++◌}
use Prim.Native.Nat.{ℕ, zero, suc, ◌+◌, ◌-◌, ◌^◌, ◌/◌, ◌%◌, ◌<◌, ◌≤◌}
use native.Mathlib.Omega.{arith}
use lib.Dec.{leb}
use lib.ListN.{length, take, drop, replicate, length-append, length-replicate}
use borrow.Author.Tests.{leb-true}
use Rattle.laws.proofs.Tests.{and_left, and_right}
use Rattle.text.specs.declared.Writer.{Writer}
use Rattle.text.specs.InnerWriting.{HasRoom, Wrote}
use Rattle.text.proofs.Pieces.{wrote_then}
use Rattle.split.specs.Split.{up_to}
use Rattle.digits.specs.Digits.{is_number, digits_only, value_from, is_label, label_value}
use Rattle.quotes.specs.Quotes.{in_quotes}
use Rattle.sheet_line.specs.Grammar.{comma}
use Rattle.sheet_line.specs.Line.{number_field, label_field, trace_on, characters, flags_field, padded, front_of, record_of}
use Rattle.sheet_line.specs.Inner.{Sound}

-- ---- numbers

module _ (most : ℕ) (s : List ℕ) (e : is_number most s ≡ true) where
  pub number_some : 1 ≤ length s
  unfolding is_number
  number_some = leb-true 1 (length s) (and_left (leb 1 (length s)) (leb (length s) most && digits_only s) e)

  pub number_short : length s ≤ most
  unfolding is_number
  number_short = leb-true (length s) most (and_left (leb (length s) most) (digits_only s) (and_right (leb 1 (length s)) (leb (length s) most && digits_only s) e))

  pub number_digits : digits_only s ≡ true
  unfolding is_number
  number_digits = and_right (leb (length s) most) (digits_only s) (and_right (leb 1 (length s)) (leb (length s) most && digits_only s) e)

pub below_4 : (v k : ℕ) → v < 10 ^ k → k ≤ 4 → v < 10000
below_4 v zero h l = omega arith
below_4 v (suc zero) h l = omega arith
below_4 v (suc (suc zero)) h l = omega arith
below_4 v (suc (suc (suc zero))) h l = omega arith
below_4 v (suc (suc (suc (suc zero)))) h l = omega arith
below_4 v (suc (suc (suc (suc (suc k))))) h l = absurd (omega arith)

pub below_2 : (v k : ℕ) → v < 10 ^ k → k ≤ 2 → v < 100
below_2 v zero h l = omega arith
below_2 v (suc zero) h l = omega arith
below_2 v (suc (suc zero)) h l = omega arith
below_2 v (suc (suc (suc k))) h l = absurd (omega arith)

-- the number of a line as it was taken
module _ (s n : List ℕ) (w : Sound s) (is-n : n ≡ up_to comma s) where
  is_number_lem : is_number 4 n ≡ true
  unfolding number_field
  is_number_lem = rw is-n w.number_is

  pub value_few : length n ≤ 4
  value_few = number_short 4 n is_number_lem

  pub value_digits : digits_only n ≡ true
  value_digits = number_digits 4 n is_number_lem

  pub value_small : (v : ℕ) → v < 10 ^ length n → v < 10000
  value_small v h = below_4 v (length n) h (number_short 4 n is_number_lem)

module _ (s f : List ℕ) (w : Sound s) (is_f : f ≡ flags_field s) where
  pub flags_few : length f ≤ 4
  flags_few = let e = number_short 2 f (rw is_f w.flags_is) in omega arith

  pub flags_digits : digits_only f ≡ true
  flags_digits = number_digits 2 f (rw is_f w.flags_is)

  pub flags_small : (v : ℕ) → v < 10 ^ length f → v < 100
  flags_small v h = below_2 v (length f) h (number_short 2 f (rw is_f w.flags_is))

  pub flags_of : (v : ℕ) → v ≡ value_from 0 f → v ≡ value_from 0 (flags_field s)
  flags_of v e = rw is_f at e

pub label_asked : (s l : List ℕ) → Sound s → l ≡ label_field s → is_label l ≡ true
label_asked s l w e = rw e w.label_is

-- ---- the front

module _ (s n l : List ℕ) (v x : ℕ) (t u₁ u₂ u₃ w : Writer) (room : HasRoom 5 t) (is-n : n ≡ up_to comma s) (is-v : v ≡ value_from 0 n)
    (is-l : l ≡ label_field s) (is_x : x ≡ label_value l) where
  pub front_written : Wrote (0x5a ∷ 0x4d ∷ []) t u₁ → Wrote (v / 256 ∷ []) u₁ u₂ → Wrote (v % 256 ∷ []) u₂ u₃ → Wrote (x ∷ []) u₃ w → Wrote (front_of s) t w
  unfolding front_of number_field
  front_written w₁ w₂ w₃ w₄ =
      let p = wrote_then (0x5a ∷ 0x4d ∷ []) (v / 256 ∷ []) t u₁ u₂ (omega arith) w₁ w₂ in
      let q = wrote_then (0x5a ∷ 0x4d ∷ v / 256 ∷ []) (v % 256 ∷ []) t u₂ u₃ (omega arith) p w₃ in
      let r = wrote_then (0x5a ∷ 0x4d ∷ v / 256 ∷ v % 256 ∷ []) (x ∷ []) t u₃ w (omega arith) q w₄ in
      rw (← is-n, ← is-v, ← is-l, ← is_x) r

-- ---- the trace

pub take_replicate : (n k x : ℕ) → k ≤ n → take k (replicate n x) ≡ replicate k x
take_replicate n zero x h = refl
take_replicate zero (suc k) x h = absurd (omega arith)
take_replicate (suc n) (suc k) x h = ap (λ (l : List ℕ). x ∷ l) (take_replicate n k x (omega arith))

module _ (s t : List ℕ) (k : ℕ) (ok : Sound s) (is-t : t ≡ drop 1 (trace_on s)) where
  said : in_quotes false t ≡ characters s
  unfolding characters
  said = rw is-t

  pub trace_few : k ≡ length (in_quotes false t) → k ≤ 15
  trace_few e = omega (arith, ap length said, ok.short)

  module _ (u : Writer) (room : HasRoom 15 u) where
    pub trace_room : HasRoom (length (in_quotes false t)) u
    trace_room = omega (arith, ap length said, ok.short)

    module _ (v : Writer) (is-k : k ≡ length (in_quotes false t)) (w₁ : Wrote (in_quotes false t) u v) where
      pub spaces_asked : HasRoom (length {A = ℕ} (take (15 - k) (replicate 15 0x20))) v
      spaces_asked =
          let q = take_replicate 15 (15 - k) 0x20 (omega arith) in
          omega (arith, trace_few is-k, w₁.next_is, w₁.keeps, ap length q, length-replicate {A = ℕ} (15 - k) 0x20)

      pub trace_written : (w : Writer) → Wrote (take (15 - k) (replicate 15 0x20)) v w → Wrote (padded (characters s)) u w
      unfolding padded
      trace_written w w₂ =
          let q = take_replicate 15 (15 - k) 0x20 (omega arith) in
          rw (← said, ← is-k) (wrote_then (in_quotes false t) (replicate (15 - k) 0x20) u v w trace_room w₁ (rw q at w₂))

-- ---- the record

pub padded_length : (t : List ℕ) → length t ≤ 15 → length (padded t) ≡ 15
unfolding padded
padded_length t h = simp (length-append, length-replicate) (omega arith)

module _ (s : List ℕ) (t u : Writer) (ok : Sound s) (room : HasRoom 21 t) (w₁ : Wrote (front_of s) t u) where
  front_next : (u.at ≡ t.at + 5) × (length u.out.now ≡ length t.out.now)
  unfolding front_of
  front_next = (w₁.next_is, w₁.keeps)

  pub trace_fits : HasRoom 15 u
  trace_fits = omega (arith, front_next)

  module _ (v : Writer) (w₂ : Wrote (padded (characters s)) u v) where
    pub flags_fits : HasRoom 1 v
    flags_fits = omega (arith, front_next, padded_length (characters s) ok.short, w₂.next_is, w₂.keeps)

    pub record_written : (w : Writer) (x : ℕ) → x ≡ value_from 0 (flags_field s) → Wrote (x ∷ []) v w → Wrote (record_of s) t w
    unfolding record_of
    record_written w x is_x w₃ =
        let p = wrote_then (padded (characters s)) (x ∷ []) u v w (omega (arith, front_next, padded_length (characters s) ok.short)) w₂ w₃ in
        rw (← is_x) (wrote_then (front_of s) (padded (characters s) ++ (x ∷ [])) t u w (omega (arith, front_next, w₁.next_is)) w₁ p)
