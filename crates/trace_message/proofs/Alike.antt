-- `alike` is equality: what `same` answers is whether the two traces are one list. Assumes nothing.
use mathlib.Core.Path.{◌≡◌, refl, sym, ap, ◌∙◌}
use mathlib.Core.Bool.{Bool, true, false, ◌&&◌, false≢true}
use mathlib.Core.List.{List, [], ◌∷◌, ◌++◌}
use Prim.Native.Nat.{ℕ}
use native.Mathlib.Omega.{arith}
use lib.ListN.{length, take, drop}
use lib.Dec.{eqb}
use lib.Seq.{take_all, drop-drop}
use Rattle.std.specs.Int.{w64, from_le_bytes, to_le_bytes}
use Rattle.std.specs.Cmp.{both_ways}
use Rattle.std.specs.Cmp.Derive.{both_true}
use Rattle.std.proofs.lemmas.List.{take-append-drop, length-drop}
use borrow.Author.Tests.{eq-eqb, eqb-true}
use Rattle.laws.proofs.Tests.{and_left, and_right}
use Rattle.trace_message.specs.Message.{alike}

pub alike_same : (x y : List ℕ) → alike x y ≡ true → x ≡ y
unfolding alike
alike_same [] [] e = refl
alike_same [] (y ∷ ys) e = absurd (false≢true e)
alike_same (x ∷ xs) [] e = absurd (false≢true e)
alike_same (x ∷ xs) (y ∷ ys) e =
    rw (eqb-true x y (and_left (eqb x y) (alike xs ys) e), alike_same xs ys (and_right (eqb x y) (alike xs ys) e))

alike_refl : (x : List ℕ) → alike x x ≡ true
unfolding alike
alike_refl [] = refl
alike_refl (x ∷ xs) = rw (eq-eqb x x refl) (alike_refl xs)

pub same_alike : (x y : List ℕ) → x ≡ y → alike x y ≡ true
same_alike x y e = rw e (alike_refl y)

-- unlike, where the lengths differ
pub alike_length : (x y : List ℕ) → (length x ≡ length y → ⊥) → false ≡ alike x y
alike_length x y h = go (alike x y) refl
  where
    go : (b : Bool) → alike x y ≡ b → false ≡ b
    go true e = absurd (h (ap length (alike_same x y e)))
    go false e = refl

pub unlike : (x y : List ℕ) → alike x y ≡ false → x ≡ y → ⊥
unlike x y h e = false≢true (sym h ∙ same_alike x y e)

-- ---- two numbers for fifteen bytes

-- the number of the eight bytes from a place on, which gives them back
abbrev pub Reads : List ℕ → ℕ → ℕ → Type 0
Reads s at n = (n ≡ from_le_bytes w64 (take 8 (drop at s))) × (to_le_bytes w64 n ≡ take 8 (drop at s))

-- the numbers of the first eight and of the last eight, which overlap in one byte, tell whether the bytes are the same
module _ (x y : List ℕ) (p q r s : ℕ) (l : length x ≡ 15) (k : length y ≡ 15) (a : Reads x 0 p) (b : Reads y 0 q) (c : Reads x 7 r) (d : Reads y 7 s) where
  last_eight : (z : List ℕ) → length z ≡ 15 → take 8 (drop 7 z) ≡ drop 7 z
  last_eight z h = take_all 8 (drop 7 z) (omega (arith, length-drop 7 z))

  fifteen : p ≡ q → r ≡ s → x ≡ y
  fifteen e f =
      let first : take 8 x ≡ take 8 y = sym a.1 ∙ ap (to_le_bytes w64) e ∙ b.1 in
      let last : drop 7 x ≡ drop 7 y = sym (last_eight x l) ∙ sym c.1 ∙ ap (to_le_bytes w64) f ∙ d.1 ∙ last_eight y k in
      let rest : drop 8 x ≡ drop 8 y = sym (drop-drop 1 7 x) ∙ ap (drop 1) last ∙ drop-drop 1 7 y in
      sym (take-append-drop 8 x) ∙ ap (λ z. z ++ drop 8 x) first ∙ ap (λ z. take 8 y ++ z) rest ∙ take-append-drop 8 y

  numbers : x ≡ y → (eqb p q && eqb r s) ≡ true
  numbers e =
      both_true
      (eq-eqb p q (a.0 ∙ ap (λ z. from_le_bytes w64 (take 8 z)) e ∙ sym b.0))
      (eq-eqb r s (c.0 ∙ ap (λ z. from_le_bytes w64 (take 8 (drop 7 z))) e ∙ sym d.0))

  pub alike_fifteen : (eqb p q && eqb r s) ≡ alike x y
  alike_fifteen =
      both_ways (eqb p q && eqb r s) (alike x y)
      (λ e. same_alike x y (fifteen (eqb-true p q (and_left (eqb p q) (eqb r s) e)) (eqb-true r s (and_right (eqb p q) (eqb r s) e))))
      (λ e. numbers (alike_same x y e))
