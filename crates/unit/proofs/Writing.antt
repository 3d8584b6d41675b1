-- What header and run come to, over plain lists: each part written in turn makes what stands before it longer. Assumes nothing.
use mathlib.Core.Path.{◌≡◌, refl, sym, ap, ◌∙◌}
use mathlib.Core.List.{List, ◌∷◌, ◌++◌, append_assoc}
use Prim.Native.Nat.{ℕ, zero, suc, ◌≤◌, ◌-◌, ◌+◌, ◌*◌, min}
use native.Mathlib.Omega.{arith}
use lib.ListN.{length, take, drop, set, get_or, replicate, length-drop, length-take, length-append, length-replicate}
use lib.Seq.{take_at, drop_at, get_or_at, length-take-le}
use borrow.Rule.Slice.PartMut.{put_mid, mid_len}
use Rattle.copier.proofs.Parts.{put_part, put_next, put_last, take_both}
use Rattle.word.specs.Word.{h1_of, h2_of}
use Rattle.unit.specs.Unit.{group_of, head_of, run_of}
use Rattle.unit.specs.Inner.{Head, Pour}

-- ---- a group

-- the others everywhere, and then the first
set_first : (n f o : ℕ) → 1 ≤ n → set (replicate n o) 0 f ≡ group_of n f o
unfolding group_of
set_first zero f o h = absurd (omega arith)
set_first (suc n) f o h =
    let q : n ≡ suc n - 1 = omega arith in
    ap (λ (k : ℕ). f ∷ replicate k o) q

-- what `group` has to show, of what `fill` has shown
pub group_made : (d x : List ℕ) (f o : ℕ) → 1 ≤ length d → x ≡ replicate (length d) o → set x 0 f ≡ group_of (length d) f o
group_made d x f o h e = rw e (set_first (length d) f o h)

pub length_group : (n f o : ℕ) → 1 ≤ n → length (group_of n f o) ≡ n
unfolding group_of
length_group n f o h = simp length-replicate (omega arith)

-- ---- the header

-- the two groups, and then the zeros, each lent in turn
header_is : (d p q r : List ℕ) (s f h l : ℕ) → Head s f d
    → p ≡ group_of (length (take s d)) h 0x9b
    → q ≡ group_of (length (take (2 * s - s) (drop s (p ++ drop s d)))) l 0xff
    → r ≡ replicate (length (take (f - 2 * s) (drop (2 * s) (put_mid s (2 * s - s) (p ++ drop s d) q)))) 0
    → put_mid (2 * s) (f - 2 * s) (put_mid s (2 * s - s) (p ++ drop s d) q) r
    ≡ (group_of s h 0x9b ++ (group_of s l 0xff ++ replicate (f - 2 * s) 0)) ++ drop f d
header_is d p q r s f h l c e₁ e₂ e₃ =
    let n₁ : length (take s d) ≡ s = simp length-take (omega arith) in
    let p-is : p ≡ group_of s h 0x9b = e₁ ∙ ap (λ (k : ℕ). group_of k h 0x9b) n₁ in
    let p_long : length p ≡ s = ap length p-is ∙ length_group s h 0x9b c.some in
    let n₂ : length (take (2 * s - s) (drop s (p ++ drop s d))) ≡ s = rw (drop_at p (drop s d) s p_long) (mid_len s (2 * s) d (omega arith) ∙ omega arith) in
    let q-is : q ≡ group_of s l 0xff = e₂ ∙ ap (λ (k : ℕ). group_of k l 0xff) n₂ in
    let q-long : length q ≡ s = ap length q-is ∙ length_group s l 0xff c.some in
    let w_is : put_mid s (2 * s - s) (p ++ drop s d) q ≡ (p ++ q) ++ drop (2 * s) d = put_next d p q s (2 * s) p_long (omega arith) in
    let pq-long : length (p ++ q) ≡ 2 * s = simp length-append (omega arith) in
    let n₃ : length (take (f - 2 * s) (drop (2 * s) (put_mid s (2 * s - s) (p ++ drop s d) q))) ≡ f - 2 * s =
    rw (w_is, drop_at (p ++ q) (drop (2 * s) d) (2 * s) pq-long) (mid_len (2 * s) f d (omega arith))
    in
    let r-is : r ≡ replicate (f - 2 * s) 0 = e₃ ∙ ap (λ (k : ℕ). replicate k 0) n₃ in
    let x-is : p ++ (q ++ r) ≡ group_of s h 0x9b ++ (group_of s l 0xff ++ replicate (f - 2 * s) 0) = cc in
    ap (λ (w : List ℕ). put_mid (2 * s) (f - 2 * s) w r) w_is
    ∙ put_next d (p ++ q) r (2 * s) f pq-long c.behind
    ∙ ap (λ (x : List ℕ). x ++ drop f d) (append_assoc p q r ∙ x-is)

-- what `header` has to show, of what its callees have shown
pub header_made : (d p q r : List ℕ) (s f h l w : ℕ) → Head s f d → h ≡ h1_of w → l ≡ h2_of w
    → p ≡ group_of (length (take s d)) h 0x9b
    → q ≡ group_of (length (take (2 * s - s) (drop s (p ++ drop s d)))) l 0xff
    → r ≡ replicate (length (take (f - 2 * s) (drop (2 * s) (put_mid s (2 * s - s) (p ++ drop s d) q)))) 0
    → put_mid (2 * s) (f - 2 * s) (put_mid s (2 * s - s) (p ++ drop s d) q) r ≡ head_of s w f ++ drop f d
unfolding head_of
header_made d p q r s f h l w c h-is l-is e₁ e₂ e₃ = rw (← h-is, ← l-is) (header_is d p q r s f h l c e₁ e₂ e₃)

pub length_head : (step word from : ℕ) → 1 ≤ step → 2 * step ≤ from → length (head_of step word from) ≡ from
unfolding head_of group_of
length_head step word from h k = simp (length-append, length-replicate) (omega arith)

-- H1 stands first, and H2 a step after it
pub head_h1 : (step word from : ℕ) (run : List ℕ) → get_or (head_of step word from ++ run) 0 0 ≡ h1_of word
unfolding head_of group_of
head_h1 step word from run = refl

pub head_h2 : (step word from : ℕ) (run : List ℕ) → 1 ≤ step → get_or (head_of step word from ++ run) step 0 ≡ h2_of word
unfolding head_of group_of
head_h2 step word from run h =
    let g = group_of step (h1_of word) 0x9b in
    let l = length_group step (h1_of word) 0x9b h in
    ap (λ (x : List ℕ). get_or x step 0) (append_assoc g (group_of step (h2_of word) 0xff ++ replicate (from - 2 * step) 0) run)
    ∙ get_or_at g (h2_of word) ((replicate (step - 1) 0xff ++ replicate (from - 2 * step) 0) ++ run) 0 step l

-- ---- the run

-- what there is room for after the first part
second_low : (x y n f : ℕ) → x ≤ y + n → f ≡ min x y → x - f ≤ n
second_low x y n f h e = omega arith

-- the second part of a run is as long as there is room for
pub second_long : (c n d : List ℕ) (sent from first : ℕ) → Pour c n sent from d → first ≡ min (length d - from) (length c - sent)
    → length d - from - first ≡ length (take (length d - from - first) n)
second_long c n d sent from first h e = sym (length-take-le (length d - from - first) n (second_low (length d - from) (length c - sent) (length n) first h.enough e))

-- what is left of the current container came back as p, and the next is still to be copied
module _ (d c n p : List ℕ) (sent from first : ℕ) (h : Pour c n sent from d) (first_is : first ≡ min (length d - from) (length c - sent)) (p-is : p ≡ take (sent + first - sent) (drop sent c)) where
  p_first : p ≡ take first (drop sent c)
  p_first =
      let q : sent + first - sent ≡ first = omega arith in
      p-is ∙ ap (λ (k : ℕ). take k (drop sent c)) q

  p_long : length p ≡ first
  p_long = ap length p_first ∙ simp (length-take, length-drop) (omega arith)

  before_long : length (take from d ++ p) ≡ from + first
  before_long = simp (length-append, length-take) (omega (arith, p_long, h.within))

  w_is : put_mid from (from + first - from) d p ≡ (take from d ++ p) ++ drop (from + first) d
  w_is = put_part d p from (from + first) (omega arith) ∙ sym (append_assoc (take from d) p (drop (from + first) d))

  w_long : length (put_mid from (from + first - from) d p) ≡ length d
  w_long = ap length w_is ∙ simp (length-append, length-drop) (omega (arith, length-append (take from d) p, before_long, h.within))

  pub second_fits : length (take (length d - from - first) n) ≡ length (take (length (put_mid from (from + first - from) d p) - (from + first)) (drop (from + first) (put_mid from (from + first - from) d p)))
  second_fits =
      let low : length d - from - first ≤ length n = second_low (length d - from) (length c - sent) (length n) first h.enough first_is in
      let same : length d - from - first ≡ length (put_mid from (from + first - from) d p) - (from + first) = rw w_long (omega arith) in
      length-take-le (length d - from - first) n low ∙ same
      ∙ sym (mid_len (from + first) (length (put_mid from (from + first - from) d p)) (put_mid from (from + first - from) d p) (omega arith))

  pub pour_is : (q : List ℕ) → q ≡ take (length d - from - first) n
      → put_mid (from + first) (length (put_mid from (from + first - from) d p) - (from + first)) (put_mid from (from + first - from) d p) q
      ≡ take from d ++ run_of (length d - from) sent c n
  unfolding run_of
  pour_is q q-is =
      let f : first ≡ min (length d - from) (length (drop sent c)) = rw length-drop first_is in
      ap (λ (w : List ℕ). put_mid (from + first) (length w - (from + first)) w q) w_is
      ∙ put_last (drop (from + first) d) (take from d ++ p) q (from + first) before_long
      ∙ append_assoc (take from d) p q
      ∙ ap (λ (x : List ℕ). take from d ++ x) (ap (λ (x : List ℕ). x ++ q) (p_first ∙ ap (λ (k : ℕ). take k (drop sent c)) f) ∙ ap (λ (x : List ℕ). take (min (length d - from) (length (drop sent c))) (drop sent c) ++ x) (q-is ∙ ap (λ (k : ℕ). take (length d - from - k) n) f) ∙ take_both (drop sent c) n (length d - from))

-- ---- header and run together: w is what `header` left

pub head_long : (h d w : List ℕ) (from : ℕ) → w ≡ h ++ drop from d → length h ≡ from → from ≤ length d → length w ≡ length d
head_long h d w from e l k = ap length e ∙ simp (length-append, length-drop) (omega arith)

pub written_is : (h d w c n : List ℕ) (from sent : ℕ) → w ≡ h ++ drop from d → length h ≡ from → from ≤ length d
    → take from w ++ run_of (length w - from) sent c n ≡ h ++ run_of (length d - from) sent c n
written_is h d w c n from sent e l k =
    ap (λ (m : ℕ). take from w ++ run_of (m - from) sent c n) (head_long h d w from e l k)
    ∙ ap (λ (x : List ℕ). x ++ run_of (length d - from) sent c n) (ap (take from) e ∙ take_at h (drop from d) from l)
