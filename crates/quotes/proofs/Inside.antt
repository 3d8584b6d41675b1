-- The loop that writes a field's characters: a turn of it and its ends.
use mathlib.Core.Path.{◌≡◌, ap, ◌∙◌}
use mathlib.Core.Bool.{false}
use mathlib.Core.List.{List, [], ◌∷◌, ◌++◌}
use Prim.Native.Nat.{ℕ, zero, suc, ◌+◌, ◌-◌, ◌<◌, ◌≤◌}
use native.Mathlib.Omega.{arith}
use lib.ListN.{length, take, drop, length-drop}
use lib.Seq.{take_all, length-take-le}
use Rattle.text.specs.declared.Writer.{Writer}
use Rattle.text.specs.InnerWriting.{HasRoom, Wrote}
use Rattle.text.proofs.Pieces.{wrote_none, wrote_then}
use Rattle.quotes.specs.Quotes.{in_quotes}
use Rattle.quotes.specs.Inner.{Closes, Says}
use Rattle.quotes.proofs.Laws.{said_in, closes_in}

-- ---- the characters, written

-- of the characters x those before the rest are written, and the others are what the rest says
pub record Half (x rest : List ℕ) (u w : Writer) : Type 0 where
  pub from : u.at ≤ w.at
  pub wrote : Wrote (take (w.at - u.at) x) u w
  pub left : drop (w.at - u.at) x ≡ in_quotes false rest

at_cons : (x r : List ℕ) (k y : ℕ) → drop k x ≡ y ∷ r → (k < length x) × ((take (suc k) x ≡ take k x ++ (y ∷ [])) × (drop (suc k) x ≡ r))
at_cons [] r zero y e = let z : ◌≡◌ {A = ℕ} 0 1 = cc in absurd (omega arith)
at_cons [] r (suc k) y e = let z : ◌≡◌ {A = ℕ} 0 1 = cc in absurd (omega arith)
at_cons (u ∷ x) r zero y e = (omega arith, (cc, cc))
at_cons (u ∷ x) r (suc k) y e = let f = at_cons x r k y e in (omega arith, (ap (λ (l : List ℕ). u ∷ l) f.1.0, f.1.1))

pub half_start : (s : List ℕ) (u : Writer) → Half (in_quotes false s) s u u
half_start s u =
    let q : u.at - u.at ≡ 0 = omega arith in
    record { from = omega arith; wrote = rw q (wrote_none u); left = rw q }

pub half_end : (x rest : List ℕ) (u w : Writer) → Half x rest u w → Closes rest → Wrote x u w
half_end x rest u w f n =
    let l : length x ≤ w.at - u.at = omega (arith, ap length (f.left ∙ closes_in rest n), length-drop (w.at - u.at) x) in
    rw (take_all (w.at - u.at) x l) at f.wrote

module _ (x rest : List ℕ) (u v : Writer) (y : ℕ) (further : List ℕ) (room : HasRoom (length x) u) (f : Half x rest u v) (said : Says rest y further) where
  here : (v.at - u.at < length x) × ((take (suc (v.at - u.at)) x ≡ take (v.at - u.at) x ++ (y ∷ [])) × (drop (suc (v.at - u.at)) x ≡ in_quotes false further))
  here = at_cons x (in_quotes false further) (v.at - u.at) y (f.left ∙ said_in rest y further said)

  pub half_room : HasRoom 1 v
  half_room = omega (arith, here.0, f.from, f.wrote.keeps)

  pub half_turn : (w : Writer) → Wrote (y ∷ []) v w → Half x further u w
  half_turn w a =
      let q : w.at - u.at ≡ suc (v.at - u.at) = omega (arith, a.next_is, f.from) in
      let r : length (take (v.at - u.at) x) ≡ v.at - u.at = length-take-le (v.at - u.at) x (omega (arith, here.0)) in
      record {
        from = omega (arith, a.next_is, f.from);
        wrote = rw (q, here.1.0) (wrote_then (take (v.at - u.at) x) (y ∷ []) u v w (omega (arith, here.0)) f.wrote a);
        left = rw q here.1.1;
      }
