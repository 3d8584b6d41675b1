-- The loop that doubles quotes, and its inverse: what was doubled is read back, up to the closing quote.
use mathlib.Core.Path.{◌≡◌, refl}
use mathlib.Core.Bool.{Bool, true, false, cond}
use mathlib.Core.List.{List, [], ◌∷◌, ◌++◌}
use Prim.Native.Nat.{ℕ, suc, ◌+◌, ◌*◌, ◌<◌, ◌≤◌}
use native.Mathlib.Numerals.{add-one}
use native.Mathlib.Omega.{arith}
use lib.Dec.{eqb}
use lib.ListN.{length, take, get_or, length-take}
use lib.Seq.{take_all, take-suc}
use borrow.Author.Tests.{eq-eqb, ne_eqb, eqb-true}
use Rattle.laws.proofs.Tests.{by_test}
use Rattle.text.specs.declared.Writer.{Writer}
use Rattle.text.specs.InnerWriting.{HasRoom, Wrote, WroteWithin}
use Rattle.text.proofs.Pieces.{wrote_none, wrote_then}
use Rattle.text.proofs.Within.{within}
use Rattle.split.specs.Split.{opens}
use Rattle.quotes.specs.Quotes.{quote, in_quotes, behind_quotes, doubled}

-- ---- laws

pub doubled_both : (s t : List ℕ) → doubled (s ++ t) ≡ doubled s ++ doubled t
unfolding doubled
doubled_both [] t = refl
doubled_both (x ∷ s) t = go (eqb x quote) (doubled_both s t)
  where
    go : (q : Bool) → doubled (s ++ t) ≡ doubled s ++ doubled t → cond q (quote ∷ quote ∷ doubled (s ++ t)) (x ∷ doubled (s ++ t)) ≡ cond q (quote ∷ quote ∷ doubled s) (x ∷ doubled s) ++ doubled t
    go true e = rw e
    go false e = rw e

pub doubled_length : (s : List ℕ) → length (doubled s) ≤ 2 * length s
unfolding doubled
doubled_length [] = omega arith
doubled_length (x ∷ s) =
    by_test (λ (l : List ℕ). length l ≤ 2 * suc (length s)) (eqb x quote) (λ _. omega (arith, doubled_length s)) (λ _. omega (arith, doubled_length s))

-- what is doubled is read back up to the quote that closes it: t does not open with a quote
pub in_doubled : (s t : List ℕ) → opens quote t ≡ false → in_quotes false (doubled s ++ (quote ∷ t)) ≡ s
unfolding in_quotes doubled opens
in_doubled [] [] e = refl
in_doubled [] (y ∷ t) e = rw e
in_doubled (x ∷ s) t e = go (eqb x quote) refl (in_doubled s t e)
  where
    go : (q : Bool) → eqb x quote ≡ q → in_quotes false (doubled s ++ (quote ∷ t)) ≡ s → in_quotes false (cond q (quote ∷ quote ∷ doubled s) (x ∷ doubled s) ++ (quote ∷ t)) ≡ x ∷ s
    go true f i = rw (i, eqb-true x quote f)
    go false f i = rw (f, i)

pub behind_doubled : (s t : List ℕ) → opens quote t ≡ false → behind_quotes false (doubled s ++ (quote ∷ t)) ≡ t
unfolding behind_quotes doubled opens
behind_doubled [] [] e = refl
behind_doubled [] (y ∷ t) e = rw e
behind_doubled (x ∷ s) t e = go (eqb x quote) refl (behind_doubled s t e)
  where
    go : (q : Bool) → eqb x quote ≡ q → behind_quotes false (doubled s ++ (quote ∷ t)) ≡ t → behind_quotes false (cond q (quote ∷ quote ∷ doubled s) (x ∷ doubled s) ++ (quote ∷ t)) ≡ t
    go true f i = i
    go false f i = rw (f, i)

-- ---- one character

module _ (x : ℕ) (u w : Writer) where
  pub double_quote : x ≡ quote → Wrote (quote ∷ quote ∷ []) u w → Wrote (doubled (x ∷ [])) u w
  unfolding doubled
  double_quote e a = rw (eq-eqb x quote e) a

  pub double_plain : (x ≡ quote → ⊥) → Wrote (x ∷ []) u w → Wrote (doubled (x ∷ [])) u w
  unfolding doubled
  double_plain e a = rw (ne_eqb x quote e) a

-- ---- the loop

pub double_start : (s : List ℕ) (u : Writer) → Wrote (doubled (take 0 s)) u u
unfolding doubled
double_start s u = wrote_none u

module _ (s : List ℕ) (u v : Writer) (i : ℕ) (room : HasRoom (2 * length s) u) (h : i < length s) (a : Wrote (doubled (take i s)) u v) where
  so_far : v.at ≤ u.at + 2 * i
  so_far = omega (arith, a.next_is, doubled_length (take i s), length-take i s)

  pub double_room : HasRoom 2 v
  double_room = omega (arith, so_far, a.keeps)

  pub double_turn : (w : Writer) → Wrote (doubled (get_or s i 0 ∷ [])) v w → Wrote (doubled (take (i + 1) s)) u w
  double_turn w b =
      rw (add-one, take-suc s i 0 h, doubled_both) (wrote_then (doubled (take i s)) (doubled (get_or s i 0 ∷ [])) u v w (omega (arith, so_far, a.next_is)) a b)

pub double_end : (s : List ℕ) (u w : Writer) (i : ℕ) → length s ≤ i → Wrote (doubled (take i s)) u w → WroteWithin (2 * length s) (doubled s) u w
double_end s u w i h a = within (2 * length s) (rw (take_all i s h) at a) (doubled_length s)
