-- What the register's functions and the tests of a message come to, from what their calls ensure. Assumes nothing.
use mathlib.Core.Path.{◌≡◌, refl, ◌∙◌}
use mathlib.Core.Bool.{Bool, ◌&&◌}
use mathlib.Core.List.{List}
use Prim.Native.Nat.{ℕ, ◌+◌, ◌*◌, ◌<◌}
use lib.Bits.{bit_xor}
use lib.Dec.{eqb}
use Rattle.trace_message.specs.Message.{start_byte, top_bits_clear, good_message}
use Rattle.trace_message.specs.InnerRegister.{bits_in, bytes_in, reduced}
use Rattle.trace_message.proofs.Division.{bits_lt, check7_register}
use Rattle.trace_message.proofs.Bytewise.{byte_in, seven_in}

-- ---- the register

-- the byte b, as the number v
module _ (r b v q : ℕ) (low : r < 128) (v-is : v ≡ b) (byte : b < 256) (q-is : q ≡ reduced (bit_xor (bit_xor (r * 16) (r * 2)) v)) where
  pub byte_is : q ≡ bits_in 8 r b
  byte_is = q-is ∙ rw v-is (byte_in r b low byte)

  pub byte_low : q < 128
  byte_low = rw byte_is (bits_lt 8 r b low)

module _ (r q : ℕ) (low : r < 128) (q-is : q ≡ reduced (bit_xor (r * 8) r)) where
  pub seven_is : q ≡ bits_in 7 r 0
  seven_is = q-is ∙ seven_in r low

  pub seven_low : q < 128
  seven_low = rw seven_is (bits_lt 7 r 0 low)

-- ---- the message

pub start_is : (cs : List ℕ) (first all check : ℕ) → first ≡ bits_in 8 0 0x80 → all ≡ bytes_in first cs → check ≡ bits_in 7 all 0 → 0x80 + check ≡ start_byte cs
unfolding start_byte bytes_in
start_is cs first all check first_is all-is check-is = rw (check7_register, check-is, all-is, first_is) refl

pub good_is : (start s : ℕ) (cs : List ℕ) (clear : Bool) → clear ≡ top_bits_clear cs → s ≡ start_byte cs → (clear && eqb start s) ≡ good_message start cs
unfolding good_message
good_is start s cs clear clear-is s-is = rw (clear-is, s-is) refl
