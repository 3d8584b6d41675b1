-- Laws of a buffer's part: when it is empty, and what it is where it is not; and that one view alone is promised. Assumes nothing.
use mathlib.Core.Path.{◌≡◌, refl, sym, ap, ◌∙◌}
use mathlib.Core.Bool.{Bool, true, false, cond, ◌&&◌}
use mathlib.Core.List.{List, []}
use Prim.Native.Nat.{ℕ, ◌+◌, ◌≤◌, ◌<◌}
use native.Mathlib.Omega.{arith}
use lib.ListN.{length, take, drop}
use lib.Seq.{take_all}
use borrow.Author.Tests.{le-leb, lt-leb}
use Rattle.receiving.specs.declared.Ended.{Ended}
use Rattle.view.specs.View.{part_of, Views}

-- ---- no bytes

and_false : (a : Bool) → (a && false) ≡ false
and_false true = refl
and_false false = refl

-- no container is there
pub part_none : (buffer : List ℕ) (there : Bool) (place size : ℕ) → there ≡ false → [] ≡ part_of buffer there place size
unfolding part_of
part_none buffer there place size e = rw e

-- the buffer ends before it
pub part_past : (buffer : List ℕ) (there : Bool) (place size : ℕ) → length buffer < place + size → [] ≡ part_of buffer there place size
unfolding part_of
part_past buffer there place size h = simp (lt-leb (place + size) (length buffer) h, and_false there)

-- ---- the bytes asked for

pub part_there : (buffer : List ℕ) (there : Bool) (place size : ℕ) → there ≡ true → place + size ≤ length buffer → part_of buffer there place size ≡ take size (drop place buffer)
unfolding part_of
part_there buffer there place size e h = simp (e, le-leb (place + size) (length buffer) h)

-- where it fits whenever it is there
pub part_fits : (buffer : List ℕ) (there : Bool) (place size : ℕ) → (there ≡ true → place + size ≤ length buffer) → part_of buffer there place size ≡ cond there (take size (drop place buffer)) []
part_fits buffer true place size h = part_there buffer true place size refl (h refl)
part_fits buffer false place size h = sym (part_none buffer false place size refl)

-- the whole of a buffer that has as many bytes as a container
pub part_whole : (buffer : List ℕ) (there : Bool) (size : ℕ) → length buffer ≡ size → part_of buffer there 0 size ≡ cond there buffer []
part_whole buffer there size e = part_fits buffer there 0 size (λ _. omega arith) ∙ ap (λ (l : List ℕ). cond there l []) (take_all size buffer (omega arith))

-- ---- the promise

-- two views that it allows have the same bytes
pub one_view : (e : Ended) (size : ℕ) (done unit first second first' second' : List ℕ)
    → Views e size done unit first second → Views e size done unit first' second' → (first ≡ first') × (second ≡ second')
one_view e size done unit first second first' second' p q = (p.first_is ∙ sym q.first_is, p.second_is ∙ sym q.second_is)
