-- Gathering a message: the bytes of one that is sent from its start come to their places. Assumes nothing.
use mathlib.Core.Path.{◌≡◌, refl, sym, ◌∙◌}
use mathlib.Core.Bool.{true, false}
use mathlib.Core.List.{List}
use Prim.Native.Nat.{ℕ, suc, pred, ◌-◌, ◌<◌}
use native.Mathlib.Numerals.{add-one, sub-one}
use native.Mathlib.Omega.{arith}
use lib.Dec.{eqb, ltb, leb}
use lib.ListN.{length, take, get_or, set, length-set}
use lib.Seq.{take-suc, take-suc-set, take_all}
use borrow.Author.Tests.{le-leb, lt-leb, lt-ltb, le-ltb, ne_eqb}
use Rattle.laws.proofs.Tests.{by_test}
use Rattle.trace_message.specs.Message.{start_byte, top_bits_clear}
use Rattle.trace_message.proofs.Message.{start_high, clear_at, good_own}
use Rattle.trace_monitor.specs.declared.Gathered.{Gathered}
use Rattle.trace_monitor.specs.Trace.{gathered_of, ends_good, spoils}

-- ---- places

-- the next byte of m put at its place
put_next : (l m : List ℕ) (j : ℕ) → j < length l → j < length m → take j l ≡ take j m → take (suc j) (set l j (get_or m j 0)) ≡ take (suc j) m
put_next l m j h k e = rw (take-suc-set l j (get_or m j 0) h, take-suc m j 0 k, e)

-- with the last byte put, the two lists are one
put_last : (l m : List ℕ) → length l ≡ 15 → length m ≡ 15 → take 14 l ≡ take 14 m → set l 14 (get_or m 14 0) ≡ m
put_last l m h k e =
    sym (take_all 15 (set l 14 (get_or m 14 0)) (rw (length-set l 14 (get_or m 14 0)) (omega arith)))
    ∙ put_next l m 14 (omega arith) (omega arith) e
    ∙ take_all 15 m (omega arith)

-- every byte leaves 15 places
pub gathered_whole : (g : Gathered) (b : ℕ) → length g.chars ≡ 15 → length (gathered_of g b).chars ≡ 15
unfolding gathered_of
gathered_whole g b h =
    by_test (λ (r : Gathered). length r.chars ≡ 15) (leb 0x80 b) (λ _. h)
    (λ _. by_test (λ (r : Gathered). length r.chars ≡ 15) (eqb g.place 0) (λ _. h)
    (λ _. by_test (λ (r : Gathered). length r.chars ≡ 15) (ltb g.place 15) (λ _. length-set g.chars (g.place - 1) b ∙ h) (λ _. length-set g.chars 14 b ∙ h)))

-- ---- a message on its way

-- i bytes of the message s have come, and no other since its start
pub record Along (s : List ℕ) (i : ℕ) (g : Gathered) : Type 0 where
  pub size : length g.chars ≡ 15
  pub place : g.place ≡ i
  pub start : g.start ≡ start_byte s
  pub chars : take (pred i) g.chars ≡ take (pred i) s

-- "its top bit set"
start_is : (s : List ℕ) → leb 0x80 (start_byte s) ≡ true
start_is s = le-leb 0x80 (start_byte s) (start_high s)

module _ (s : List ℕ) (size : length s ≡ 15) (low : top_bits_clear s ≡ true) where
  -- the start byte, wherever it comes
  pub start_along : (g : Gathered) → length g.chars ≡ 15 → Along s 1 (gathered_of g (start_byte s))
  unfolding gathered_of
  start_along g h = rw (start_is s) (record { size = h; place = refl; start = refl; chars = refl })

  pub start_ends : (place : ℕ) (n : Gathered) → ends_good place (start_byte s) n ≡ false
  unfolding ends_good
  start_ends place n = rw (start_is s)

  -- at place 0 it cuts nothing
  pub start_spoils : spoils 0 (start_byte s) ≡ false
  unfolding spoils
  start_spoils = rw (start_is s)

  -- character j, and not the last
  module _ (j : ℕ) (within : j < 14) where
    char_is : leb 0x80 (get_or s j 0) ≡ false
    char_is = lt-leb 0x80 (get_or s j 0) (clear_at s j low (omega arith))

    pub char_along : (g : Gathered) → Along s (suc j) g → Along s (suc (suc j)) (gathered_of g (get_or s j 0))
    unfolding gathered_of
    char_along g a =
        rw (a.place, char_is, ne_eqb (suc j) 0 (λ e. absurd (omega arith)), lt-ltb (suc j) 15 (omega arith), sub-one, add-one)
        (record { size = length-set g.chars j (get_or s j 0) ∙ a.size; place = refl; start = a.start; chars = put_next g.chars s j (omega (arith, a.size)) (omega arith) a.chars })

    pub char_ends : (place : ℕ) (n : Gathered) → place ≡ suc j → ends_good place (get_or s j 0) n ≡ false
    unfolding ends_good
    char_ends place n e = rw (char_is, lt-ltb place 15 (omega arith))

    pub char_spoils : (place : ℕ) → place ≡ suc j → spoils place (get_or s j 0) ≡ false
    unfolding spoils
    char_spoils place e = rw (char_is, ne_eqb place 0 (λ z. absurd (omega arith)), lt-leb 15 place (omega arith))

  -- the last character
  last_is : leb 0x80 (get_or s 14 0) ≡ false
  last_is = lt-leb 0x80 (get_or s 14 0) (clear_at s 14 low (omega arith))

  pub last_gathered : (g : Gathered) → Along s 15 g → gathered_of g (get_or s 14 0) ≡ record { place = 0; start = start_byte s; chars = s }
  unfolding gathered_of
  last_gathered g a = simp (a.place, last_is, a.start, put_last g.chars s a.size size a.chars)

  pub last_ends : (place : ℕ) → place ≡ 15 → ends_good place (get_or s 14 0) (record { place = 0; start = start_byte s; chars = s }) ≡ true
  unfolding ends_good
  last_ends place e = rw (last_is, le-ltb place 15 (omega arith)) (good_own s low)
