-- A statement about a few Bools, or about every member of a list: one test that the check computes, and one law that turns it into the statement. Assumes nothing.
use mathlib.Core.Path.{◌≡◌}
use mathlib.Core.Bool.{Bool, true, false, ◌&&◌, ◌||◌, not, false≢true}
use mathlib.Core.List.{List, [], ◌∷◌}
use Prim.Native.Nat.{ℕ, zero, suc, ◌<◌}
use native.Mathlib.Omega.{arith}
use lib.ListN.{length, get_or}
use Rattle.laws.proofs.Tests.{and_left, and_right}

-- not a, or b: with a, b
pub unless : (a b : Bool) → a ≡ true → not a || b ≡ true → b ≡ true
unless true b p h = h
unless false b p h = absurd (false≢true p)

-- ---- all lists of n Bools

unfoldable pub all : ℕ → (List Bool → Bool) → Bool
all zero p = p []
all (suc n) p = all n (λ bs. p (true ∷ bs)) && all n (λ bs. p (false ∷ bs))

pub all_at : (n : ℕ) (p : List Bool → Bool) → all n p ≡ true → (bs : List Bool) → length bs ≡ n → p bs ≡ true
unfolding all
all_at zero p h [] e = h
all_at zero p h (b ∷ bs) e = absurd (omega arith)
all_at (suc n) p h [] e = absurd (omega arith)
all_at (suc n) p h (true ∷ bs) e =
    all_at n (λ cs. p (true ∷ cs)) (and_left (all n (λ cs. p (true ∷ cs))) (all n (λ cs. p (false ∷ cs))) h) bs (omega arith)
all_at (suc n) p h (false ∷ bs) e =
    all_at n (λ cs. p (false ∷ cs)) (and_right (all n (λ cs. p (true ∷ cs))) (all n (λ cs. p (false ∷ cs))) h) bs (omega arith)

-- ---- every member of a list

unfoldable pub every : {A : Type 0} → (A → Bool) → List A → Bool
every p [] = true
every p (a ∷ xs) = p a && every p xs

pub every_at : {A : Type 0} (p : A → Bool) (xs : List A) → every p xs ≡ true → (d : A) (n : ℕ) → n < length xs → p (get_or xs n d) ≡ true
unfolding every
every_at p [] h d n l = absurd (omega arith)
every_at p (a ∷ xs) h d zero l = and_left (p a) (every p xs) h
every_at p (a ∷ xs) h d (suc n) l = every_at p xs (and_right (p a) (every p xs) h) d n (omega arith)
