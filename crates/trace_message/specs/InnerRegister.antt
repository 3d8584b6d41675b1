-- How the code works the check out: one register of seven bits. No public promise cites this file;
-- proofs/Division.antt shows that the register, bit by bit, is the long division of specs/Message.antt, and proofs/Bytewise.antt that it may take a byte at once.
use Rattle.std.specs.Prelude.{ℕ, zero, suc, ◌+◌, ◌-◌, ◌*◌, ◌/◌, ◌%◌, cond, List, [], ◌∷◌, ltb}
use Rattle.std.specs.Int.Bits.{bit_xor}

-- one more coefficient: x times the register and it; where that has x^7, x^3 + 1 stands for it
unfoldable pub shifted : ℕ → ℕ → ℕ
shifted r bit = cond (ltb (r * 2 + bit) 128) (r * 2 + bit) (bit_xor (r * 2 + bit - 128) 9)

-- the n highest bits of a byte; `% 2` changes nothing there, and lets the laws speak of any number
unfoldable pub bits_in : ℕ → ℕ → ℕ → ℕ
bits_in zero r b = r
bits_in (suc n) r b = bits_in n (shifted r (b / 128 % 2)) (b % 128 * 2)

-- bytes
unfoldable pub bytes_in : ℕ → List ℕ → ℕ
bytes_in r [] = r
bytes_in r (b ∷ bs) = bytes_in (bits_in 8 r b) bs

-- the remainder of a polynomial below x^11 at one stroke: the part from x^7 on, four coefficients at most, times x^3 + 1
unfoldable pub reduced : ℕ → ℕ
reduced t = bit_xor (bit_xor (t % 128) (t / 128)) (t / 128 * 8)
