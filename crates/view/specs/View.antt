-- Which parts of the done buffer and of the unit are handed back: 01, "Containers out of a unit".
use Rattle.std.specs.Prelude.{◌≡◌, Bool, cond, ◌&&◌, List, [], ◌++◌, ℕ, ◌+◌, length, take, drop, get_or, leb}
use Rattle.cut.specs.Cut.{one_if}
use Rattle.receiving.specs.declared.Ended.{Ended}

-- "that part .. itself, not a copy": so many bytes of a buffer from a place on, where a container is there and the buffer has them; else none
unfoldable pub part_of : List ℕ → Bool → ℕ → ℕ → List ℕ
part_of buffer there place size = cond (there && leb (place + size) (length buffer)) (take size (drop place buffer)) []

-- "One begun earlier is completed in the done buffer"
abbrev pub first_handed : Ended → ℕ → List ℕ → List ℕ
first_handed e size done = part_of done e.completed 0 size

-- "One that begins and ends in this unit is handed back as that part of the unit itself"
abbrev pub second_handed : Ended → ℕ → List ℕ → List ℕ
second_handed e size unit = part_of unit e.inside e.place size

-- the view: both, and what is not there is empty
pub record Views (e : Ended) (size : ℕ) (done unit first second : List ℕ) : Type 0 where
  pub first_is : first ≡ first_handed e size done
  pub second_is : second ≡ second_handed e size unit

-- "up to two containers end in a unit": of the two, those that did, in order
unfoldable pub in_order : Ended → List ℕ → List ℕ → List (List ℕ)
in_order e first second = one_if e.completed first ++ one_if e.inside second

-- the containers that a unit hands back
abbrev pub handed_back : Ended → ℕ → List ℕ → List ℕ → List (List ℕ)
handed_back e size done unit = in_order e (first_handed e size done) (second_handed e size unit)

-- the one that ended k-th, counted from 0; empty where so many did not end
abbrev pub container_handed : Ended → ℕ → List ℕ → List ℕ → ℕ → List ℕ
container_handed e size done unit k = get_or (handed_back e size done unit) k []
