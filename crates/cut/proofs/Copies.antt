-- What the copies leave in the buffers. Assumes nothing.
use mathlib.Core.Path.{◌≡◌, ap, ◌∙◌}
use mathlib.Core.Bool.{true}
use mathlib.Core.List.{List, ◌++◌}
use Prim.Native.Nat.{ℕ, ◌+◌, ◌-◌, ◌≤◌}
use native.Mathlib.Omega.{arith}
use lib.Dec.{ltb}
use lib.ListN.{length, take, drop}
use lib.Seq.{length-take-le}
use borrow.Author.Tests.{lt-ltb}
use borrow.Rule.Slice.PartMut.{put_mid}
use Rattle.copier.proofs.Parts.{rest_is, put_both}
use Rattle.shape.specs.Shape.{Shape, unit_length}
use Rattle.cut.specs.declared.Cut.{Cut}
use Rattle.cut.proofs.Within.{rest_count, rest_low}
use Rattle.cut.specs.Cut.{cut_of, completed_of, done_of, held_of}
use Rattle.cut.specs.Inner.{Line, Cuts}

-- no container was begun
pub untouched : (s : Shape) (kept from : ℕ) (unit held done : List ℕ) → kept ≡ 0 → done ≡ done_of s (cut_of s kept from) unit held done
unfolding done_of cut_of
untouched s kept from unit held done e = rw e

-- what the held bytes lack lies in the unit
pub lack_within : (s : Shape) (kept from : ℕ) (unit : List ℕ) → Line s kept from → length unit ≡ unit_length s → (kept ≡ 0 → ⊥) → from + (s.size - kept) ≤ length unit
lack_within s kept from unit l e n = rw e (l.ends_within (omega arith))

-- `&mut done[..kept]` came back as p, with the held bytes, and then `&mut done[kept..]` as q, with the unit's
pub completed_is : (s : Shape) (kept from : ℕ) (unit held done p q : List ℕ) → Line s kept from → length held ≡ s.size → (kept ≡ 0 → ⊥)
    → p ≡ take kept held → q ≡ take (from + (s.size - kept) - from) (drop from unit)
    → put_mid kept (length (p ++ drop kept done) - kept) (p ++ drop kept done) q ≡ done_of s (cut_of s kept from) unit held done
unfolding done_of cut_of completed_of
completed_is s kept from unit held done p q l h n e f =
    let k : from + (s.size - kept) - from ≡ s.size - kept = omega arith in
    let some : ltb 0 kept ≡ true = lt-ltb 0 kept (omega arith) in
    simp some
    (put_both done p q (take kept held) (take (s.size - kept) (drop from unit)) kept
    (length-take-le kept held (omega (arith, l.kept_low))) e (f ∙ ap (λ (j : ℕ). take j (drop from unit)) k))

-- `&mut held[..rest]` came back as p, with the unit's end
pub kept_is : (unit held p : List ℕ) (begin left : ℕ) → p ≡ take (length unit - begin) (drop begin unit) → p ++ drop left held ≡ drop begin unit ++ drop left held
kept_is unit held p begin left e = ap (λ (z : List ℕ). z ++ drop left held) (e ∙ rest_is unit begin)

-- what is left over is the unit's end, and has its place in `held`
module _ (s : Shape) (kept from : ℕ) (c : Cut) (l : Line s kept from) (c-is : c ≡ cut_of s kept from) where
  pub rest_is_end : (unit : List ℕ) → length unit ≡ unit_length s → length unit ≡ c.begin + c.rest
  rest_is_end unit u = rw (c-is, u) (rest_count s kept from l)

  pub rest_fits : (held : List ℕ) → length held ≡ s.size → c.rest ≤ length held
  rest_fits held h = rw (c-is, h) (rest_low s kept from l)

-- one unit
pub unit_cut : (s : Shape) (kept from : ℕ) (unit held done held' done' : List ℕ) (c : Cut) → c ≡ cut_of s kept from
    → held' ≡ drop c.begin unit ++ drop c.rest held → done' ≡ done_of s (cut_of s kept from) unit held done → Cuts s kept from unit held done c held' done'
unfolding held_of
unit_cut s kept from unit held done held' done' c e h d = record { cut_is = e; held_is = h ∙ ap (λ (x : Cut). held_of x unit held) e; done_is = d }
