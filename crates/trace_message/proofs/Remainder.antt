-- What `remainder` means. A polynomial is a multiple of the divisor and its remainder, and no other polynomial of degree below 7 will do.
-- Over two elements the sum is the difference, `minus`. Assumes nothing.
use mathlib.Core.Path.{◌≡◌, refl, ap, ◌∙◌}
use mathlib.Core.List.{List, [], ◌∷◌, ◌++◌, map}
use Prim.Native.Nat.{ℕ, zero, suc, ◌+◌, ◌*◌, ◌/◌, ◌%◌, ◌<◌}
use native.Mathlib.Nat.{mod-lt}
use native.Mathlib.Omega.{arith}
use lib.Bits.{differ}
use lib.Dec.{eqb, lit<}
use lib.ListN.{length, drop, replicate, length-append}
use Rattle.laws.proofs.Bits.{differ_lt}
use Rattle.laws.proofs.Tests.{by_test}
use Rattle.trace_message.specs.Message.{coefficients, polynomial, minus, divisor, remainder, number, check7}
use Rattle.trace_message.proofs.Division.{placed, cons_same}

-- ---- coefficients, 0 or 1

pub data Binary : List ℕ → Type 0 where
  none : Binary []
  more : {c : ℕ} {p : List ℕ} → c < 2 → Binary p → Binary (c ∷ p)

bit_cases : (P : ℕ → Type 0) → P 0 → P 1 → (c : ℕ) → c < 2 → P c
bit_cases P x y zero h = x
bit_cases P x y (suc zero) h = y
bit_cases P x y (suc (suc c)) h = absurd (omega arith)

-- the sum without the carry
differ_sum : (x y : ℕ) → x < 2 → y < 2 → differ x y ≡ (x + y) % 2
differ_sum x y h k =
    bit_cases (λ (x : ℕ). differ x y ≡ (x + y) % 2)
    (bit_cases (λ (y : ℕ). differ 0 y ≡ (0 + y) % 2) refl refl y k)
    (bit_cases (λ (y : ℕ). differ 1 y ≡ (1 + y) % 2) refl refl y k)
    x h

differ_three : (x y z : ℕ) → x < 2 → y < 2 → z < 2 → differ (differ x y) z ≡ (x + y + z) % 2
differ_three x y z h k l = rw (differ_sum (differ x y) z (differ_lt x y h k) l, differ_sum x y h k) (omega arith)

differ_twice : (x y : ℕ) → x < 2 → y < 2 → differ (differ x y) y ≡ x
differ_twice x y h k = rw (differ_three x y y h k k) (omega arith)

differ_swap : (x y z : ℕ) → x < 2 → y < 2 → z < 2 → differ (differ x y) z ≡ differ (differ x z) y
differ_swap x y z h k l = rw (differ_three x y z h k l, differ_three x z y h l k) (omega arith)

minus_binary : {a b : List ℕ} → Binary a → Binary b → Binary (minus a b)
unfolding minus
minus_binary none y = none
minus_binary (more h x) none = more h x
minus_binary (more {c} h x) (more {c = d} k y) = more (differ_lt c d h k) (minus_binary x y)

-- what is taken away twice was never taken
minus_twice : {a b : List ℕ} → Binary a → Binary b → minus (minus a b) b ≡ a
unfolding minus
minus_twice none y = refl
minus_twice (more h x) none = refl
minus_twice (more {c} h x) (more {c = d} k y) = cons_same (differ_twice c d h k) (minus_twice x y)

-- the order does not matter
minus_swap : {a b z : List ℕ} → Binary a → Binary b → Binary z → minus (minus a b) z ≡ minus (minus a z) b
unfolding minus
minus_swap none y z = refl
minus_swap (more h x) none none = refl
minus_swap (more h x) none (more l z) = refl
minus_swap (more h x) (more k y) none = refl
minus_swap (more {c} h x) (more {c = d} k y) (more {c = e} l z) = cons_same (differ_swap c d e h k l) (minus_swap x y z)

minus_zeros : (n : ℕ) (p : List ℕ) → minus p (replicate n 0) ≡ p
unfolding minus
minus_zeros zero [] = refl
minus_zeros zero (c ∷ p) = refl
minus_zeros (suc n) [] = refl
minus_zeros (suc n) (zero ∷ p) = cons_same refl (minus_zeros n p)
minus_zeros (suc n) (suc c ∷ p) = cons_same refl (minus_zeros n p)

zeros_minus : (n : ℕ) (p : List ℕ) → length p ≡ n → minus (replicate n 0) p ≡ p
unfolding minus
zeros_minus zero [] h = refl
zeros_minus zero (c ∷ p) h = absurd (omega arith)
zeros_minus (suc n) [] h = absurd (omega arith)
zeros_minus (suc n) (c ∷ p) h = cons_same refl (zeros_minus n p (omega arith))

length_minus : (p q : List ℕ) → length (minus p q) ≡ length p
unfolding minus
length_minus [] q = refl
length_minus (x ∷ p) [] = refl
length_minus (x ∷ p) (y ∷ q) = ap suc (length_minus p q)

zeros_binary : (n : ℕ) {p : List ℕ} → Binary p → Binary (replicate n 0 ++ p)
zeros_binary zero b = b
zeros_binary (suc n) b = more (lit< tt) (zeros_binary n b)

-- ---- multiples of the divisor

-- a polynomial times the divisor
unfoldable pub times : List ℕ → List ℕ
times [] = replicate 7 0
times (c ∷ q) = minus (0 ∷ times q) (map (λ x. c * x) divisor)

-- q times the divisor, and r, of degree below 7
abbrev pub dividend : List ℕ → List ℕ → List ℕ
dividend q r = minus (times q) (replicate (length q) 0 ++ r)

-- the places where the division takes the divisor away
unfoldable pub quotient : ℕ → List ℕ → List ℕ
quotient zero p = []
quotient (suc n) [] = []
quotient (suc n) (c ∷ p) = c ∷ quotient n (placed (c ∷ p))

-- the divisor below its leading coefficient
abbrev lower : List ℕ
lower = drop 1 divisor

lower_binary : Binary lower
lower_binary = more (lit< tt) (more (lit< tt) (more (lit< tt) (more (lit< tt) (more (lit< tt) (more (lit< tt) (more (lit< tt) none))))))

times_binary : {q : List ℕ} → Binary q → Binary (times q)
unfolding times
times_binary none = zeros_binary 7 none
times_binary (more {c} {p = q} h b) =
    bit_cases (λ (c : ℕ). Binary (minus (0 ∷ times q) (map (λ x. c * x) divisor)))
    (minus_binary (more (lit< tt) (times_binary b)) (zeros_binary 8 none))
    (minus_binary (more (lit< tt) (times_binary b)) (more (lit< tt) lower_binary))
    c h

-- the remainder of a multiple of the divisor and a polynomial of degree below 7 is that polynomial
pub remainder_is : (q r : List ℕ) → Binary q → Binary r → length r ≡ 7 → remainder (length q) (dividend q r) ≡ r
unfolding remainder times minus
remainder_is [] r none b l = zeros_minus 7 r l
remainder_is (c ∷ q) r (more h a) b l =
    bit_cases (λ (c : ℕ). remainder (suc (length q)) (dividend (c ∷ q) r) ≡ r)
    (ap (λ (t : List ℕ). remainder (length q) (minus t (replicate (length q) 0 ++ r))) (minus_zeros 7 (times q))
    ∙ remainder_is q r a b l)
    (ap (remainder (length q))
    (minus_swap (minus_binary (times_binary a) lower_binary) (zeros_binary (length q) b) lower_binary
    ∙ ap (λ (t : List ℕ). minus t (replicate (length q) 0 ++ r)) (minus_twice (times_binary a) lower_binary))
    ∙ remainder_is q r a b l)
    c h

-- what is left after one place is a polynomial again, one place shorter
placed_binary : {c : ℕ} {p : List ℕ} → c < 2 → Binary p → Binary (placed (c ∷ p))
unfolding minus
placed_binary {c} {p} h b =
    bit_cases (λ (c : ℕ). Binary (placed (c ∷ p))) b (minus_binary b lower_binary) c h

length_placed : (c : ℕ) (p : List ℕ) → length (placed (c ∷ p)) ≡ length p
unfolding minus
length_placed c p = by_test (λ (l : List ℕ). length (drop 1 l) ≡ length p) (eqb c 1) (λ _. length_minus p lower) (λ _. refl)

remainder_binary : (n : ℕ) {p : List ℕ} → Binary p → Binary (remainder n p)
unfolding remainder
remainder_binary zero b = b
remainder_binary (suc n) none = none
remainder_binary (suc n) (more h b) = remainder_binary n (placed_binary h b)

quotient_binary : (n : ℕ) {p : List ℕ} → Binary p → Binary (quotient n p)
unfolding quotient
quotient_binary zero b = none
quotient_binary (suc n) none = none
quotient_binary (suc n) (more h b) = more h (quotient_binary n (placed_binary h b))

-- it has seven coefficients: its degree is below 7
pub length_remainder : (n : ℕ) (p : List ℕ) → length p ≡ 7 + n → length (remainder n p) ≡ 7
unfolding remainder
length_remainder zero p l = omega arith
length_remainder (suc n) [] l = absurd (omega arith)
length_remainder (suc n) (c ∷ p) l = length_remainder n (placed (c ∷ p)) (length_placed c p ∙ omega arith)

-- the polynomial is its quotient times the divisor, and the remainder
pub quotient_remainder : (n : ℕ) (p : List ℕ) → Binary p → length p ≡ 7 + n → dividend (quotient n p) (remainder n p) ≡ p
unfolding remainder quotient times minus
quotient_remainder zero p b l = zeros_minus 7 p (omega arith)
quotient_remainder (suc n) [] none l = absurd (omega arith)
quotient_remainder (suc n) (c ∷ p) (more h b) l =
    bit_cases (λ (c : ℕ). dividend (quotient (suc n) (c ∷ p)) (remainder (suc n) (c ∷ p)) ≡ c ∷ p)
    (cons_same refl
    (ap (λ (t : List ℕ). minus t (replicate (length (quotient n p)) 0 ++ remainder n p)) (minus_zeros 7 (times (quotient n p)))
    ∙ quotient_remainder n p b (omega arith)))
    (let rest : Binary (minus p lower) = minus_binary b lower_binary in
    cons_same refl
    (minus_swap (times_binary (quotient_binary n rest)) lower_binary (zeros_binary (length (quotient n (minus p lower))) (remainder_binary n rest))
    ∙ ap (λ (t : List ℕ). minus t lower) (quotient_remainder n (minus p lower) rest (length_minus p lower ∙ omega arith))
    ∙ minus_twice b lower_binary))
    c h

-- ---- the check

more_bit : (n : ℕ) {p : List ℕ} → Binary p → Binary (n % 2 ∷ p)
more_bit n b = more (mod-lt n (lit< tt)) b

polynomial_binary : (bs : List ℕ) {rest : List ℕ} → Binary rest → Binary (polynomial bs ++ rest)
unfolding polynomial coefficients
polynomial_binary [] b = b
polynomial_binary (x ∷ bs) b =
    more_bit (x / 128) (more_bit (x / 64) (more_bit (x / 32) (more_bit (x / 16) (more_bit (x / 8) (more_bit (x / 4) (more_bit (x / 2) (more_bit x (polynomial_binary bs b))))))))

length_polynomial : (bs : List ℕ) → length (polynomial bs) ≡ 8 * length bs
unfolding polynomial coefficients
length_polynomial [] = refl
length_polynomial (x ∷ bs) = omega (arith, length_polynomial bs)

-- bytes times x^7 are a multiple of the divisor and the remainder that the check is made of
pub check7_divides : (bs : List ℕ) → dividend (quotient (8 * length bs) (polynomial bs ++ replicate 7 0)) (remainder (8 * length bs) (polynomial bs ++ replicate 7 0)) ≡ polynomial bs ++ replicate 7 0
check7_divides bs =
    quotient_remainder (8 * length bs) (polynomial bs ++ replicate 7 0) (polynomial_binary bs (zeros_binary 7 none))
    (simp (length-append, length_polynomial) (omega arith))

-- and whoever divides them in another way finds the same check
pub check7_is : (bs q r : List ℕ) → Binary q → Binary r → length q ≡ 8 * length bs → length r ≡ 7 → polynomial bs ++ replicate 7 0 ≡ dividend q r → check7 bs ≡ number 0 r
unfolding check7
check7_is bs q r a b k l e = rw (← k, e, remainder_is q r a b l)
