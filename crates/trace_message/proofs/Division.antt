-- The code's register holds what long division leaves: `check7` is what the register holds after the bytes and seven bits 0. Assumes nothing.
use mathlib.Core.Path.{◌≡◌, refl, sym, ap, ◌∙◌}
use mathlib.Core.Bool.{Bool, true, false, cond}
use mathlib.Core.List.{List, [], ◌∷◌, ◌++◌, append_assoc}
use Prim.Native.Nat.{ℕ, zero, suc, ◌+◌, ◌*◌, ◌/◌, ◌%◌, ◌<◌, ◌≤◌}
use native.Mathlib.Nat.{zero-add, suc-add, add_comm}
use native.Mathlib.Omega.{arith}
use lib.Bits.{differ}
use lib.Dec.{eqb, lit<, lit≤}
use lib.ListN.{length, drop, take, replicate}
use lib.Seq.{take-append-le}
use borrow.Author.Tests.{eqb-true}
use Rattle.laws.proofs.Tables.{every, every_at}
use Rattle.trace_message.specs.Message.{coefficients, polynomial, minus, divisor, remainder, number, check7, alike}
use Rattle.trace_message.specs.InnerRegister.{shifted, bits_in, bytes_in}
use Rattle.trace_message.proofs.Alike.{alike_same}
use Rattle.trace_message.proofs.Laws.{shifted_lt}

-- ---- one place

-- the coefficients that a register of seven bits holds
abbrev held : ℕ → List ℕ
held r = drop 1 (coefficients r)

-- one place of the division
abbrev pub placed : List ℕ → List ℕ
placed [] = []
placed (c ∷ p) = drop 1 (cond (eqb c 1) (minus (c ∷ p) divisor) (c ∷ p))

-- what stands beyond the divisor's last place is left alone
minus_append : (p q rest : List ℕ) → length q ≤ length p → minus (p ++ rest) q ≡ minus p q ++ rest
unfolding minus
minus_append [] [] [] h = refl
minus_append [] [] (x ∷ rest) h = refl
minus_append [] (y ∷ q) rest h = absurd (omega arith)
minus_append (x ∷ p) [] rest h = refl
minus_append (x ∷ p) (y ∷ q) rest h = ap (λ (l : List ℕ). differ x y ∷ l) (minus_append p q rest (omega arith))

placed_append : (c : ℕ) (p rest : List ℕ) → 7 ≤ length p → placed (c ∷ (p ++ rest)) ≡ placed (c ∷ p) ++ rest
unfolding minus
placed_append c p rest h = go (eqb c 1)
  where
    go : (b : Bool) → drop 1 (cond b (minus (c ∷ (p ++ rest)) divisor) (c ∷ (p ++ rest))) ≡ drop 1 (cond b (minus (c ∷ p) divisor) (c ∷ p)) ++ rest
    go true = minus_append p (drop 1 divisor) rest h
    go false = refl

-- the register takes one place as the division does: 128 registers, two coefficients
place_test : ℕ → ℕ → Bool
place_test r c = alike (placed (held r ++ (c ∷ []))) (held (shifted r c))

place_table : every 128 (λ r. every 2 (λ c. place_test r c)) ≡ true
unfolding place_test coefficients minus shifted alike
place_table = refl

placed_held : (r c : ℕ) → r < 128 → c < 2 → placed (held r ++ (c ∷ [])) ≡ held (shifted r c)
unfolding place_test
placed_held r c h k =
    alike_same (placed (held r ++ (c ∷ []))) (held (shifted r c)) (every_at 2 (place_test r) (every_at 128 (λ r. every 2 (place_test r)) place_table r h) c k)

one_place : (r c n : ℕ) (rest : List ℕ) → r < 128 → c < 2 → remainder (suc n) (held r ++ (c ∷ rest)) ≡ remainder n (held (shifted r c) ++ rest)
unfolding remainder coefficients
one_place r c n rest h k =
    ap (remainder n)
    (placed_append (r / 64 % 2) (drop 1 (held r) ++ (c ∷ [])) rest (lit≤ tt)
    ∙ ap (λ (l : List ℕ). l ++ rest) (placed_held r c h k))

-- ---- many places

-- the first coefficients agree, and the rest
pub cons_same : {x y : ℕ} {p q : List ℕ} → x ≡ y → p ≡ q → x ∷ p ≡ y ∷ q
cons_same d e = rw (d, e)

-- the seven lower coefficients, one place up
next_coefficients : (b : ℕ) → coefficients (b % 128 * 2) ≡ drop 1 (coefficients b) ++ (0 ∷ [])
unfolding coefficients
next_coefficients b =
    cons_same (omega arith) (cons_same (omega arith) (cons_same (omega arith) (cons_same (omega arith) (cons_same (omega arith) (cons_same (omega arith) (cons_same (omega arith) (cons_same (omega arith) refl)))))))

-- so the bits that `bits_in` takes are the coefficients in turn
take_next : (n b : ℕ) → n ≤ 7 → take (suc n) (coefficients b) ≡ b / 128 % 2 ∷ take n (coefficients (b % 128 * 2))
unfolding coefficients
take_next n b k = cons_same refl (sym (ap (take n) (next_coefficients b) ∙ take-append-le n (held b) (0 ∷ []) k))

-- ever a register
pub bits_lt : (n r b : ℕ) → r < 128 → bits_in n r b < 128
unfolding bits_in
bits_lt zero r b h = h
bits_lt (suc n) r b h = bits_lt n (shifted r (b / 128 % 2)) (b % 128 * 2) (shifted_lt r (b / 128 % 2) h (omega arith))

bytes_lt : (r : ℕ) (bs : List ℕ) → r < 128 → bytes_in r bs < 128
unfolding bytes_in
bytes_lt r [] h = h
bytes_lt r (b ∷ bs) h = bytes_lt (bits_in 8 r b) bs (bits_lt 8 r b h)

-- n places, of the n highest coefficients of a byte
bits_places : (n m r b : ℕ) (rest : List ℕ) → n ≤ 8 → r < 128 → remainder (n + m) (held r ++ (take n (coefficients b) ++ rest)) ≡ remainder m (held (bits_in n r b) ++ rest)
unfolding bits_in
bits_places zero m r b rest k h = rw zero-add refl
bits_places (suc n) m r b rest k h =
    let bit : b / 128 % 2 < 2 = omega arith in
    rw (suc-add, take_next n b (omega arith))
    (one_place r (b / 128 % 2) (n + m) (take n (coefficients (b % 128 * 2)) ++ rest) h bit
    ∙ bits_places n m (shifted r (b / 128 % 2)) (b % 128 * 2) rest (omega arith) (shifted_lt r (b / 128 % 2) h bit))

-- the places of bytes
bytes_places : (m r : ℕ) (bs rest : List ℕ) → r < 128 → remainder (8 * length bs + m) (held r ++ (polynomial bs ++ rest)) ≡ remainder m (held (bytes_in r bs) ++ rest)
unfolding bytes_in polynomial coefficients
bytes_places m r [] rest h = rw zero-add refl
bytes_places m r (b ∷ bs) rest h =
    let more : 8 * suc (length bs) + m ≡ 8 + (8 * length bs + m) = omega arith in
    rw (more, append_assoc)
    (bits_places 8 (8 * length bs + m) r b (polynomial bs ++ rest) (lit≤ tt) h
    ∙ bytes_places m (bits_in 8 r b) bs rest (bits_lt 8 r b h))

-- ---- the check

-- leading coefficients 0 change nothing
leading_zeros : (n : ℕ) (p : List ℕ) → remainder (7 + n) (held 0 ++ p) ≡ remainder n p
unfolding remainder coefficients
leading_zeros n p =
    let seven : 7 + n ≡ suc (suc (suc (suc (suc (suc (suc n)))))) = omega arith in
    rw seven refl

-- the register as a number is the number that its coefficients write
number_table : every 128 (λ r. eqb (number 0 (held r)) r) ≡ true
unfolding coefficients number
number_table = refl

number_held : (r : ℕ) → r < 128 → number 0 (held r) ≡ r
number_held r h = eqb-true (number 0 (held r)) r (every_at 128 (λ r. eqb (number 0 (held r)) r) number_table r h)

-- the register, after the bytes and seven bits 0, is the check
pub check7_register : (bs : List ℕ) → check7 bs ≡ bits_in 7 (bytes_in 0 bs) 0
unfolding check7 remainder coefficients
check7_register bs =
    let q : ℕ = bytes_in 0 bs in
    let below : q < 128 = bytes_lt 0 bs (lit< tt) in
    ap (number 0)
    (sym (leading_zeros (8 * length bs) (polynomial bs ++ replicate 7 0))
    ∙ rw add_comm (bytes_places 7 0 bs (replicate 7 0) (lit< tt) ∙ bits_places 7 0 q 0 [] (lit≤ tt) below))
    ∙ number_held (bits_in 7 q 0) (bits_lt 7 q 0 below)

pub check7_lt : (bs : List ℕ) → check7 bs < 128
check7_lt bs = rw check7_register (bits_lt 7 (bytes_in 0 bs) 0 (bytes_lt 0 bs (lit< tt)))
