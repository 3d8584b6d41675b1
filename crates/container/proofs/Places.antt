-- Where the bytes of a container lie, for any overhead and any number of columns. Assumes nothing.
use mathlib.Core.Path.{◌≡◌, refl, sym, ap, ap₂, ◌∙◌}
use mathlib.Core.List.{List, [], ◌∷◌, ◌++◌}
use Prim.Native.Nat.{ℕ, zero, suc, ◌+◌, ◌-◌, ◌*◌, ◌<◌}
use native.Mathlib.Nat.{zero-mul, suc-mul, zero-add}
use native.Mathlib.Omega.{arith}
use lib.ListN.{length, take, drop, get_or, length-append, length-drop, take-append-drop, get_or-append}
use lib.Seq.{length-take-le, take_at, drop_at, get_or-append-add, get_or-take, get_or-drop}
use Rattle.container.specs.Container.{rows_of, heads_of, strip_of, container_of, overhead_in, payload_in, payload_size}

nothing : (l : List ℕ) → length l ≡ 0 → l ≡ []
nothing [] h = refl
nothing (x ∷ l) h = absurd (omega arith)

-- one row and the rest: what each induction below rests on
module _ (w n : ℕ) (payload : List ℕ) (h : length payload ≡ suc n * w) where
  first_row : length (take w payload) ≡ w
  first_row = length-take-le w payload (omega (arith, suc-mul n w))

  other_rows : length (drop w payload) ≡ n * w
  other_rows = length-drop w payload ∙ omega (arith, suc-mul n w)

-- as many bytes as rows of one overhead byte and w of payload
pub length_rows : (w : ℕ) (overhead payload : List ℕ) → length payload ≡ length overhead * w → length (rows_of w overhead payload) ≡ length overhead * suc w
unfolding rows_of
length_rows w [] payload h = sym (zero-mul (suc w))
length_rows w (p ∷ overhead) payload h =
    let a = first_row w (length overhead) payload h in
    let b = length_rows w overhead (drop w payload) (other_rows w (length overhead) payload h) in
    let c = length-append (take w payload) (rows_of w overhead (drop w payload)) in
    omega (arith, suc-mul (length overhead) (suc w))

-- the payload comes back
pub strip_rows : (w : ℕ) (overhead payload : List ℕ) → length payload ≡ length overhead * w → strip_of w (length overhead) (rows_of w overhead payload) ≡ payload
unfolding rows_of strip_of
strip_rows w [] payload h = sym (nothing payload (h ∙ zero-mul w))
strip_rows w (p ∷ overhead) payload h =
    let a = first_row w (length overhead) payload h in
    let rest = rows_of w overhead (drop w payload) in
    ap₂ (λ (x y : List ℕ). x ++ strip_of w (length overhead) y) (take_at (take w payload) rest w a) (drop_at (take w payload) rest w a)
    ∙ ap (λ (x : List ℕ). take w payload ++ x) (strip_rows w overhead (drop w payload) (other_rows w (length overhead) payload h))
    ∙ take-append-drop w payload

-- the overhead comes back
pub heads_rows : (w : ℕ) (overhead payload : List ℕ) → length payload ≡ length overhead * w → heads_of w (length overhead) (rows_of w overhead payload) ≡ overhead
unfolding rows_of heads_of
heads_rows w [] payload h = refl
heads_rows w (p ∷ overhead) payload h =
    let rest = rows_of w overhead (drop w payload) in
    ap (λ (x : List ℕ). p ∷ heads_of w (length overhead) x) (drop_at (take w payload) rest w (first_row w (length overhead) payload h))
    ∙ ap (λ (x : List ℕ). p ∷ x) (heads_rows w overhead (drop w payload) (other_rows w (length overhead) payload h))

-- and a container is its overhead and its payload
pub rows_parts : (w n : ℕ) (c : List ℕ) → length c ≡ n * suc w → rows_of w (heads_of w n c) (strip_of w n c) ≡ c
unfolding rows_of heads_of strip_of
rows_parts w zero c h = sym (nothing c (h ∙ zero-mul (suc w)))
rows_parts w (suc n) [] h = absurd (omega (arith, suc-mul n (suc w)))
rows_parts w (suc n) (b ∷ c) h =
    let l : length (take w c) ≡ w = length-take-le w c (omega (arith, suc-mul n (suc w))) in
    let m : length (drop w c) ≡ n * suc w = length-drop w c ∙ omega (arith, suc-mul n (suc w)) in
    let rest = strip_of w n (drop w c) in
    ap₂ (λ (x y : List ℕ). b ∷ (x ++ rows_of w (heads_of w n (drop w c)) y)) (take_at (take w c) rest w l) (drop_at (take w c) rest w l)
    ∙ ap (λ (x : List ℕ). b ∷ (take w c ++ x)) (rows_parts w n (drop w c) m)
    ∙ ap (λ (x : List ℕ). b ∷ x) (take-append-drop w c)

-- the overhead byte of row r
pub get_d_rows : (w : ℕ) (overhead payload : List ℕ) (r : ℕ) → length payload ≡ length overhead * w → r < length overhead → get_or (rows_of w overhead payload) (r * suc w) 0 ≡ get_or overhead r 0
unfolding rows_of
get_d_rows w [] payload r h k = absurd (omega arith)
get_d_rows w (p ∷ overhead) payload zero h k = rw (zero-mul (suc w))
get_d_rows w (p ∷ overhead) payload (suc r) h k =
    let a = first_row w (length overhead) payload h in
    let rest = rows_of w overhead (drop w payload) in
    let n : suc r * suc w ≡ suc (length (take w payload) + r * suc w) = omega (arith, suc-mul r (suc w)) in
    ap (λ (j : ℕ). get_or (p ∷ (take w payload ++ rest)) j 0) n
    ∙ get_or-append-add (take w payload) rest (r * suc w) 0
    ∙ get_d_rows w overhead (drop w payload) r (other_rows w (length overhead) payload h) (omega arith)

-- and of any bytes at all: the head of row r is the byte at its place
pub get_or_heads : (w n : ℕ) (c : List ℕ) (r : ℕ) → r < n → get_or (heads_of w n c) r 0 ≡ get_or c (r * suc w) 0
unfolding heads_of
get_or_heads w zero c r h = absurd (omega arith)
get_or_heads w (suc n) c zero h = rw (zero-mul (suc w))
get_or_heads w (suc n) c (suc r) h =
    let m : suc w + r * suc w ≡ suc r * suc w = omega (arith, suc-mul r (suc w)) in
    get_or_heads w n (drop (suc w) c) r (omega arith)
    ∙ get_or-drop (suc w) c (r * suc w) 0
    ∙ ap (λ (j : ℕ). get_or c j 0) m

-- the payload bytes of row r, counted by c from the one after the overhead byte
pub payload_rows : (w : ℕ) (overhead payload : List ℕ) (r c : ℕ) → length payload ≡ length overhead * w → r < length overhead → c < w → get_or (rows_of w overhead payload) (suc (r * suc w + c)) 0 ≡ get_or payload (r * w + c) 0
unfolding rows_of
payload_rows w [] payload r c h k l = absurd (omega arith)
payload_rows w (p ∷ overhead) payload zero c h k l =
    let a = first_row w (length overhead) payload h in
    rw (zero-mul (suc w), zero-mul w, zero-add c) (get_or-append (take w payload) (rows_of w overhead (drop w payload)) 0 c (omega arith) ∙ get_or-take w payload c 0 l)
payload_rows w (p ∷ overhead) payload (suc r) c h k l =
    let a = first_row w (length overhead) payload h in
    let rest = rows_of w overhead (drop w payload) in
    let n : suc r * suc w + c ≡ length (take w payload) + suc (r * suc w + c) = omega (arith, suc-mul r (suc w)) in
    let m : w + (r * w + c) ≡ suc r * w + c = omega (arith, suc-mul r w) in
    ap (λ (j : ℕ). get_or (take w payload ++ rest) j 0) n
    ∙ get_or-append-add (take w payload) rest (suc (r * suc w + c)) 0
    ∙ payload_rows w overhead (drop w payload) r c (other_rows w (length overhead) payload h) (omega arith) l
    ∙ get_or-drop w payload (r * w + c) 0
    ∙ ap (λ (j : ℕ). get_or payload j 0) m

-- the same of a container: nine overhead bytes, and a payload of the right length
module _ (columns : ℕ) (overhead payload : List ℕ) (some : 0 < columns) (nine : length overhead ≡ 9) (full : length payload ≡ payload_size columns) where
  rows_full : length payload ≡ length overhead * (columns - 1)
  rows_full = rw nine full

  one_more : suc (columns - 1) ≡ columns
  one_more = omega arith

  pub length_container : length (container_of columns overhead payload) ≡ 9 * columns
  length_container = length_rows (columns - 1) overhead payload rows_full ∙ rw (nine, one_more)

  pub payload_container : payload_in columns (container_of columns overhead payload) ≡ payload
  payload_container = rw nine at (strip_rows (columns - 1) overhead payload rows_full)

  pub overhead_container : overhead_in columns (container_of columns overhead payload) ≡ overhead
  overhead_container = rw nine at (heads_rows (columns - 1) overhead payload rows_full)

  pub get_or_container : (r : ℕ) → r < 9 → get_or (container_of columns overhead payload) (r * columns) 0 ≡ get_or overhead r 0
  get_or_container r h = rw one_more at (get_d_rows (columns - 1) overhead payload r rows_full (rw nine h))

  pub payload_at : (r c : ℕ) → r < 9 → c < columns - 1 → get_or (container_of columns overhead payload) (suc (r * columns + c)) 0 ≡ get_or payload (r * (columns - 1) + c) 0
  payload_at r c h k = rw one_more at (payload_rows (columns - 1) overhead payload r c rows_full (rw nine h) k)

-- the overhead byte of row r lies at the row's first place
pub overhead_at : (columns : ℕ) (c : List ℕ) (r : ℕ) → 0 < columns → r < 9 → get_or (overhead_in columns c) r 0 ≡ get_or c (r * columns) 0
overhead_at columns c r some h =
    let one_more : suc (columns - 1) ≡ columns = omega arith in
    rw one_more at (get_or_heads (columns - 1) 9 c r h)

-- every list of the right length is the container of its parts
pub container_parts : (columns : ℕ) (c : List ℕ) → 0 < columns → length c ≡ 9 * columns → container_of columns (overhead_in columns c) (payload_in columns c) ≡ c
container_parts columns c some full =
    let one_more : suc (columns - 1) ≡ columns = omega arith in
    rows_parts (columns - 1) 9 c (rw one_more full)
