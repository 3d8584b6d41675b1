-- The register may take a byte at once (`byte_in`). It is linear (`bits_xor`): after eight bits it holds the exclusive or of what the old register leaves
-- with eight bits 0, and of what the byte leaves alone. Each of these two is a test computed over all registers or all bytes. Assumes nothing.
use mathlib.Core.Path.{◌≡◌, refl, sym, ap, ap₂, ◌∙◌}
use mathlib.Core.Bool.{true}
use Prim.Native.Nat.{ℕ, zero, suc, ◌+◌, ◌*◌, ◌/◌, ◌%◌, ◌^◌, ◌<◌}
use native.Mathlib.Nat.{add-zero}
use native.Mathlib.Omega.{arith}
use borrow.Author.Tests.{eqb-true}
use lib.Bits.{bit_xor, xor_block, xor_comm, xor_lt, xor_mod, xor_shr, xor_zero_r}
use lib.Pow.{pow_pos}
use lib.Dec.{eqb, lit<}
use Rattle.laws.proofs.Bits.{xor_assoc}
use Rattle.laws.proofs.Tables.{every, every_at}
use Rattle.trace_message.specs.InnerRegister.{shifted, bits_in, reduced}
use Rattle.trace_message.proofs.Laws.{shifted_lt}

-- two functions agree below n where a test that is computed says so
same_below : (n : ℕ) (f g : ℕ → ℕ) → every n (λ k. eqb (f k) (g k)) ≡ true → (k : ℕ) → k < n → f k ≡ g k
same_below n f g e k h = eqb-true (f k) (g k) (every_at n (λ k. eqb (f k) (g k)) e k h)

-- ---- bit_xor

xor_swap : (a b c d : ℕ) → bit_xor (bit_xor a b) (bit_xor c d) ≡ bit_xor (bit_xor a c) (bit_xor b d)
xor_swap a b c d =
    xor_assoc a b (bit_xor c d)
    ∙ ap (bit_xor a) (sym (xor_assoc b c d) ∙ ap (λ (x : ℕ). bit_xor x d) (xor_comm b c) ∙ xor_assoc c b d)
    ∙ sym (xor_assoc a c (bit_xor b d))

xor_times : (k a b : ℕ) → bit_xor (a * 2 ^ k) (b * 2 ^ k) ≡ bit_xor a b * 2 ^ k
xor_times k a b =
    sym (ap₂ bit_xor (add-zero (a * 2 ^ k)) (add-zero (b * 2 ^ k))) ∙ xor_block k a b 0 0 (pow_pos k) (pow_pos k) ∙ add-zero (bit_xor a b * 2 ^ k)

-- ---- reduced

reduced_xor : (s t : ℕ) → reduced (bit_xor s t) ≡ bit_xor (reduced s) (reduced t)
unfolding reduced
reduced_xor s t =
    let low : bit_xor s t % 128 ≡ bit_xor (s % 128) (t % 128) = xor_mod s t 7 in
    let high : bit_xor s t / 128 ≡ bit_xor (s / 128) (t / 128) = xor_shr s t 7 in
    ap₂ (λ (x y : ℕ). bit_xor (bit_xor x y) (y * 8)) low high
    ∙ ap₂ bit_xor (xor_swap (s % 128) (t % 128) (s / 128) (t / 128)) (sym (xor_times 3 (s / 128) (t / 128)))
    ∙ xor_swap (bit_xor (s % 128) (s / 128)) (bit_xor (t % 128) (t / 128)) (s / 128 * 8) (t / 128 * 8)

-- ---- shifted

-- all registers, both bits
shifted_table : every 128 (λ r. every 2 (λ a. eqb (shifted r a) (reduced (r * 2 + a)))) ≡ true
unfolding shifted reduced
shifted_table = refl

shifted_reduced : (r a : ℕ) → r < 128 → a < 2 → shifted r a ≡ reduced (r * 2 + a)
shifted_reduced r a h k =
    same_below 2 (shifted r) (λ a. reduced (r * 2 + a))
    (every_at 128 (λ r. every 2 (λ a. eqb (shifted r a) (reduced (r * 2 + a)))) shifted_table r h) a k

shifted_xor : (r s a b : ℕ) → r < 128 → s < 128 → a < 2 → b < 2 → shifted (bit_xor r s) (bit_xor a b) ≡ bit_xor (shifted r a) (shifted s b)
shifted_xor r s a b hr hs ha hb =
    shifted_reduced (bit_xor r s) (bit_xor a b) (xor_lt 7 r s hr hs) (xor_lt 1 a b ha hb)
    ∙ ap reduced (sym (xor_block 1 r s a b ha hb))
    ∙ reduced_xor (r * 2 + a) (s * 2 + b)
    ∙ sym (ap₂ bit_xor (shifted_reduced r a hr ha) (shifted_reduced s b hs hb))

-- ---- bits_in

bits_xor : (n r s b c : ℕ) → r < 128 → s < 128 → bits_in n (bit_xor r s) (bit_xor b c) ≡ bit_xor (bits_in n r b) (bits_in n s c)
unfolding bits_in
bits_xor zero r s b c hr hs = refl
bits_xor (suc n) r s b c hr hs =
    let hb : b / 128 % 2 < 2 = omega arith in
    let hc : c / 128 % 2 < 2 = omega arith in
    let bit : bit_xor b c / 128 % 2 ≡ bit_xor (b / 128 % 2) (c / 128 % 2) = ap (λ (x : ℕ). x % 2) (xor_shr b c 7) ∙ xor_mod (b / 128) (c / 128) 1 in
    let rest : bit_xor b c % 128 * 2 ≡ bit_xor (b % 128 * 2) (c % 128 * 2) = ap (λ (x : ℕ). x * 2) (xor_mod b c 7) ∙ sym (xor_times 1 (b % 128) (c % 128)) in
    ap₂ (bits_in n) (ap (shifted (bit_xor r s)) bit ∙ shifted_xor r s (b / 128 % 2) (c / 128 % 2) hr hs hb hc) rest
    ∙ bits_xor n (shifted r (b / 128 % 2)) (shifted s (c / 128 % 2)) (b % 128 * 2) (c % 128 * 2) (shifted_lt r (b / 128 % 2) hr hb) (shifted_lt s (c / 128 % 2) hs hc)

-- all registers, with eight bits 0: x^8 leaves x^4 + x
eight_zeros : (r : ℕ) → r < 128 → bits_in 8 r 0 ≡ reduced (bit_xor (r * 16) (r * 2))
unfolding shifted bits_in reduced
eight_zeros = same_below 128 (λ r. bits_in 8 r 0) (λ r. reduced (bit_xor (r * 16) (r * 2))) refl

-- the register 0, with all bytes
byte_alone : (b : ℕ) → b < 256 → bits_in 8 0 b ≡ reduced b
unfolding shifted bits_in reduced
byte_alone = same_below 256 (bits_in 8 0) reduced refl

-- a byte at once
pub byte_in : (r b : ℕ) → r < 128 → b < 256 → reduced (bit_xor (bit_xor (r * 16) (r * 2)) b) ≡ bits_in 8 r b
byte_in r b h k =
    reduced_xor (bit_xor (r * 16) (r * 2)) b
    ∙ sym (ap₂ bit_xor (eight_zeros r h) (byte_alone b k))
    ∙ sym (bits_xor 8 r 0 0 b h (lit< tt))
    ∙ ap (λ (x : ℕ). bits_in 8 x b) (xor_zero_r r)

-- all registers, with seven bits 0: x^7 leaves x^3 + 1
pub seven_in : (r : ℕ) → r < 128 → reduced (bit_xor (r * 8) r) ≡ bits_in 7 r 0
unfolding shifted bits_in reduced
seven_in = same_below 128 (λ r. reduced (bit_xor (r * 8) r)) (λ r. bits_in 7 r 0) refl
