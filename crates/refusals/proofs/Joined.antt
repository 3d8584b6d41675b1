-- Tables one after the other: the first that refuses decides; and a part's table in the whole's. Assumes nothing.
use mathlib.Core.Path.{◌≡◌, refl}
use mathlib.Core.List.{List, [], ◌∷◌, ◌++◌}
use Prim.Native.Nat.{ℕ}
use native.Mathlib.Omega.{arith}
use Rattle.refusals.specs.Refusals.{Fault, rows_at, answer_of}
use Rattle.refusals.specs.declared.Refusal.{Refusal}
use Rattle.std.specs.Prelude.{Ok, Err}

pub joined_refused : (xs ys : List (Fault Refusal)) (x : Refusal) → answer_of xs ≡ Err x → answer_of (xs ++ ys) ≡ Err x
unfolding answer_of
joined_refused [] ys x e = let z : ◌≡◌ {A = ℕ} 0 1 = cc in absurd (omega arith)
joined_refused (f ∷ xs) ys x e = e

pub joined_done : (xs ys : List (Fault Refusal)) → answer_of xs ≡ Ok tt → answer_of (xs ++ ys) ≡ answer_of ys
unfolding answer_of
joined_done [] ys e = refl
joined_done (f ∷ xs) ys e = let z : ◌≡◌ {A = ℕ} 0 1 = cc in absurd (omega arith)

pub joined_none : {A : Type 0} (xs ys : List A) → xs ++ ys ≡ [] → (xs ≡ []) × (ys ≡ [])
joined_none [] ys e = (refl, e)
joined_none (f ∷ xs) ys e = let z : ◌≡◌ {A = ℕ} 0 1 = cc in absurd (omega arith)

-- where the whole has no row of a part's table, the part has none
pub rows_none : {A B : Type 0} (places : List ℕ) (whole : A → B) (fs : List (Fault A)) → rows_at places whole fs ≡ [] → fs ≡ []
unfolding rows_at
rows_none places whole [] e = refl
rows_none places whole (f ∷ fs) e = let z : ◌≡◌ {A = ℕ} 0 1 = cc in absurd (omega arith)
