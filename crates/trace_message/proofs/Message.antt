-- What holds of start bytes and of good messages. Assumes nothing.
use mathlib.Core.Path.{◌≡◌, refl}
use mathlib.Core.Bool.{true}
use mathlib.Core.List.{List, [], ◌∷◌}
use Prim.Native.Nat.{ℕ, zero, suc, ◌<◌, ◌≤◌}
use native.Mathlib.Omega.{arith}
use lib.Dec.{eqb, ltb}
use lib.ListN.{length, get_or}
use borrow.Author.Tests.{eq-eqb, eqb-true, ltb-true}
use Rattle.laws.proofs.Tests.{and_left, and_right}
use Rattle.trace_message.specs.Message.{start_byte, message, top_bits_clear, good_message, trace_check}

-- ---- the start byte

-- it has its top bit set, so it is no character
pub start_high : (cs : List ℕ) → 0x80 ≤ start_byte cs
unfolding start_byte
start_high cs = omega arith

-- ---- characters

pub clear_at : (cs : List ℕ) (j : ℕ) → top_bits_clear cs ≡ true → j < length cs → get_or cs j 0 < 0x80
unfolding top_bits_clear
clear_at [] j h k = absurd (omega arith)
clear_at (b ∷ bs) zero h k = ltb-true b 0x80 (and_left (ltb b 0x80) (top_bits_clear bs) h)
clear_at (b ∷ bs) (suc j) h k = clear_at bs j (and_right (ltb b 0x80) (top_bits_clear bs) h) (omega arith)

-- ---- good messages

-- characters with top bit 0 are a good message with their own start byte
pub good_own : (cs : List ℕ) → top_bits_clear cs ≡ true → good_message (start_byte cs) cs ≡ true
unfolding good_message
good_own cs h = rw (h, eq-eqb (start_byte cs) (start_byte cs) refl)

-- and with no other
pub good_start : (start : ℕ) (cs : List ℕ) → good_message start cs ≡ true → start ≡ start_byte cs
unfolding good_message
good_start start cs h = eqb-true start (start_byte cs) (and_right (top_bits_clear cs) (eqb start (start_byte cs)) h)

-- the message of 15 characters passes the host's trace check
pub check_own : (cs : List ℕ) → length cs ≡ 15 → top_bits_clear cs ≡ true → trace_check (message cs) ≡ true
unfolding message trace_check
check_own cs l h = rw (eq-eqb (length cs) 15 l) (good_own cs h)
