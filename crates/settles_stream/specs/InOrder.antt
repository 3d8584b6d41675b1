-- Containers in order, and what a monitor makes of them one after the other: 01, "Containers out of a unit" and "Defects, actions, causes" ("per container, in order").
use Rattle.std.specs.Prelude.{ℕ, zero, suc, ◌+◌, cond, List, [], ◌∷◌, ◌++◌}
use Rattle.receiving.specs.declared.Ended.{Ended}

-- n containers in order, from number i on
unfoldable pub boxes : (ℕ → List ℕ) → ℕ → ℕ → List (List ℕ)
boxes box i zero = []
boxes box i (suc n) = box i ∷ boxes box (i + 1) n

-- the violated columns that a unit's answer tells, of the container completed in the done buffer and of the one inside the unit
unfoldable pub violated_told : Ended → List ℕ
violated_told e = cond e.completed (e.first.violated ∷ []) [] ++ cond e.inside (e.second.violated ∷ []) []
