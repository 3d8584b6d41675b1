-- One turn of the loops over the nine rows, and the last. Assumes nothing.
use mathlib.Core.Path.{◌≡◌, sym, ap, ◌∙◌}
use mathlib.Core.List.{List, [], ◌∷◌, ◌++◌, append_assoc, append-nil}
use Prim.Native.Nat.{ℕ, suc, ◌+◌, ◌-◌, ◌*◌, ◌<◌, ◌≤◌}
use native.Mathlib.Nat.{suc-mul, zero-mul, mul-le-mul_right}
use native.Mathlib.Numerals.{add-one}
use native.Mathlib.Omega.{arith}
use lib.ListN.{length, take, drop, set, get_or, length-set, drop_of_length-le}
use lib.Seq.{drop-cons, drop-drop, take-suc-set, take_all}
use borrow.Rule.Slice.PartMut.{put_mid}
use Rattle.copier.proofs.Parts.{take_part, length_part, length_whole}
use Rattle.container.specs.Container.{rows_of, strip_of}

-- where the next row begins: of the payload at this width, of the container with its overhead byte
next_from : (row width : ℕ) → (row + 1) * width ≡ row * width + width
next_from row width = rw (add-one, suc-mul)

next_to : (row width : ℕ) → (row + 1) * (width + 1) ≡ row * (width + 1) + 1 + width
next_to row width = omega (arith, next_from row (width + 1))

-- and of nine rows no row goes past the end
row_low : (row width : ℕ) → row < 9 → row * width + width ≤ 9 * width
row_low row width more =
    let next : row + 1 ≤ 9 = omega arith in
    omega (arith, next_from row width, mul-le-mul_right width next)

-- a row is written: its overhead byte, and its part of the payload, which came back as q
module _ (w : ℕ) (overhead payload d q x : List ℕ) (row from to : ℕ) where
  row_length : from + w ≤ length payload → q ≡ take (from + w - from) (drop from payload) → length q ≡ w
  row_length f is = ap length is ∙ length_part payload from w f

  row_written :
      to + 1 + w ≤ length d
      → length q ≡ w
      → take (to + 1 + w) (put_mid (to + 1) (to + 1 + w - (to + 1)) (set d to (get_or overhead row 0)) q) ≡ (take to d ++ (get_or overhead row 0 ∷ [])) ++ q
  row_written k l =
      let p = get_or overhead row 0 in
      take_part (set d to p) q (to + 1) (to + 1 + w) (omega arith) (simp length-set k) (omega arith)
      ∙ ap (λ (z : List ℕ). z ++ q) (ap (λ (j : ℕ). take j (set d to p)) (add-one to) ∙ take-suc-set d to p (omega arith))

  row_split :
      row < length overhead
      → take to d ++ rows_of w (drop row overhead) (drop from payload) ≡ ((take to d ++ (get_or overhead row 0 ∷ [])) ++ take w (drop from payload)) ++ rows_of w (drop (row + 1) overhead) (drop (from + w) payload)
  unfolding rows_of
  row_split h = rw add-one (simp (drop-cons overhead row 0 h, drop-drop, append_assoc))

  row_long :
      to + 1 + w ≤ length d
      → from + w ≤ length payload
      → q ≡ take (from + w - from) (drop from payload)
      → length (put_mid (to + 1) (to + 1 + w - (to + 1)) (set d to (get_or overhead row 0)) q) ≡ length d
  row_long k f is =
      length_whole (set d to (get_or overhead row 0)) q (to + 1) w (simp length-set k) (row_length f is) ∙ length-set d to (get_or overhead row 0)

  row_turn :
      row < length overhead
      → to + 1 + w ≤ length d
      → from + w ≤ length payload
      → q ≡ take (from + w - from) (drop from payload)
      → take to d ++ rows_of w (drop row overhead) (drop from payload) ≡ x
      → take (to + 1 + w) (put_mid (to + 1) (to + 1 + w - (to + 1)) (set d to (get_or overhead row 0)) q) ++ rows_of w (drop (row + 1) overhead) (drop (from + w) payload) ≡ x
  row_turn h k f is e =
      let n : from + w - from ≡ w = omega arith in
      rw (row_written k (row_length f is), is, n, ← (row_split h)) e

  row_end : length overhead ≤ row → length d ≤ to → take to d ++ rows_of w (drop row overhead) (drop from payload) ≡ x → d ≡ x
  unfolding rows_of
  row_end h k e = sym (append-nil d) ∙ rw (take_all to d k, drop_of_length-le overhead h) at e

-- a row is taken: all but its first byte, which came to the payload as q
module _ (w : ℕ) (container d q x : List ℕ) (left from to : ℕ) where
  taken_length : from + 1 + w ≤ length container → q ≡ take (from + 1 + w - (from + 1)) (drop (from + 1) container) → length q ≡ w
  taken_length f is = ap length is ∙ length_part container (from + 1) w f

  strip_split :
      take to d ++ strip_of w (suc left) (drop from container) ≡ (take to d ++ take w (drop (from + 1) container)) ++ strip_of w left (drop (from + 1 + w) container)
  unfolding strip_of
  strip_split =
      let n : from + suc w ≡ from + 1 + w = omega arith in
      simp (drop-drop, n, append_assoc)

  taken_long :
      to + w ≤ length d
      → from + 1 + w ≤ length container
      → q ≡ take (from + 1 + w - (from + 1)) (drop (from + 1) container)
      → length (put_mid to (to + w - to) d q) ≡ length d
  taken_long k f is = length_whole d q to w k (taken_length f is)

  taken_turn :
      to + w ≤ length d
      → from + 1 + w ≤ length container
      → q ≡ take (from + 1 + w - (from + 1)) (drop (from + 1) container)
      → take to d ++ strip_of w (suc left) (drop from container) ≡ x
      → take (to + w) (put_mid to (to + w - to) d q) ++ strip_of w left (drop (from + 1 + w) container) ≡ x
  taken_turn k f is e =
      let n : from + 1 + w - (from + 1) ≡ w = omega arith in
      let l = taken_length f is in
      rw (take_part d q to (to + w) (omega arith) k (omega arith), is, n, ← strip_split) e

  taken_end : length d ≤ to → take to d ++ strip_of w 0 (drop from container) ≡ x → d ≡ x
  unfolding strip_of
  taken_end k e = sym (append-nil d) ∙ rw (take_all to d k) at e

-- ---- what `rows` knows before each row: d is the container, lent as d₀; the rows left fill it

pub rows_begin : (w : ℕ) (overhead payload d : List ℕ) → take (0 * (w + 1)) d ++ rows_of w (drop 0 overhead) (drop (0 * w) payload) ≡ rows_of w overhead payload
rows_begin w overhead payload d = simp zero-mul

module _ (w : ℕ) (overhead payload d d₀ : List ℕ) (row : ℕ)
    (nine : length overhead ≡ 9) (full : length payload ≡ 9 * w) (asked : length d₀ ≡ length payload + 9) (long : length d ≡ length d₀)
  where
    pub rows_turn : (q x : List ℕ) → row < 9 → q ≡ take (row * w + w - row * w) (drop (row * w) payload) → take (row * (w + 1)) d ++ rows_of w (drop row overhead) (drop (row * w) payload) ≡ x
        → take ((row + 1) * (w + 1)) (put_mid (row * (w + 1) + 1) (row * (w + 1) + 1 + w - (row * (w + 1) + 1)) (set d (row * (w + 1)) (get_or overhead row 0)) q)
        ++ rows_of w (drop (row + 1) overhead) (drop ((row + 1) * w) payload) ≡ x
    rows_turn q x more is e =
        rw (next_from row w, next_to row w)
        (row_turn w overhead payload d q x row (row * w) (row * (w + 1)) (omega arith)
        (omega (arith, row_low row (w + 1) more)) (omega (arith, row_low row w more)) is e)

    pub rows_end : (x : List ℕ) → 9 ≤ row → take (row * (w + 1)) d ++ rows_of w (drop row overhead) (drop (row * w) payload) ≡ x → d ≡ x
    rows_end x past = row_end w overhead payload d d x row (row * w) (row * (w + 1)) (omega arith) (omega (arith, mul-le-mul_right (w + 1) past))

-- ---- what `strip` knows before each row: d is the payload, lent as d₀

pub strip_begin : (w : ℕ) (container d : List ℕ) → take (0 * w) d ++ strip_of w (9 - 0) (drop (0 * (w + 1)) container) ≡ strip_of w 9 container
strip_begin w container d = simp zero-mul

module _ (w : ℕ) (container d d₀ : List ℕ) (row : ℕ)
    (full : length d₀ ≡ 9 * w) (asked : length container ≡ length d₀ + 9) (long : length d ≡ length d₀)
  where
    pub strip_turn : (q x : List ℕ) → row < 9 → q ≡ take (row * (w + 1) + 1 + w - (row * (w + 1) + 1)) (drop (row * (w + 1) + 1) container)
        → take (row * w) d ++ strip_of w (9 - row) (drop (row * (w + 1)) container) ≡ x
        → take ((row + 1) * w) (put_mid (row * w) (row * w + w - row * w) d q) ++ strip_of w (9 - (row + 1)) (drop ((row + 1) * (w + 1)) container) ≡ x
    strip_turn q x more is e =
        let one : 9 - row ≡ suc (9 - (row + 1)) = omega arith in
        rw (next_from row w, next_to row w)
        (taken_turn w container d q x (9 - (row + 1)) (row * (w + 1)) (row * w) (omega (arith, row_low row w more)) (omega (arith, row_low row (w + 1) more)) is (rw one at e))

    pub strip_end : (x : List ℕ) → 9 ≤ row → take (row * w) d ++ strip_of w (9 - row) (drop (row * (w + 1)) container) ≡ x → d ≡ x
    strip_end x past e =
        let none : 9 - row ≡ 0 = omega arith in
        taken_end w container d d x 0 (row * (w + 1)) (row * w) (omega (arith, mul-le-mul_right w past)) (rw none at e)
