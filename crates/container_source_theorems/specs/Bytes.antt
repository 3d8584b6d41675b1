-- Bytes of the containers that a run sends, which the theorems about J1, B3 and the rest speak of.
use Rattle.std.specs.Prelude.{◌≡◌, cond, List, [], ◌∷◌, ℕ, zero, suc, ◌+◌, ◌*◌, ◌<◌, get_or, Ok}
use Rattle.shape.specs.Shape.{Shape}
use Rattle.container_source.specs.declared.State.{State}
use Rattle.container_source.specs.declared.Given.{Given}
use Rattle.container_source_theorems.specs.Run.{ContainerSourceCall, outcome_at, container_at}

-- none of the first n calls is refused
abbrev pub Unrefused : Shape → State → (ℕ → ContainerSourceCall) → ℕ → Type 0
Unrefused s first calls n = (k : ℕ) → k < n → (outcome_at s first calls k).sent.answer ≡ Ok tt

-- J1 of n containers in turn, from container k on
unfoldable pub j1s : Shape → State → (ℕ → ContainerSourceCall) → ℕ → ℕ → List ℕ
j1s s first calls k zero = []
j1s s first calls k (suc n) = get_or (container_at s first calls k) 0 0 ∷ j1s s first calls (suc k) n

-- B3 of a container
abbrev pub b3 : Shape → List ℕ → ℕ
b3 s container = get_or container s.columns 0

-- the bytes below B3, where "Column 1 holds J1, B3, C2, G1, F2, H4, F3, K3, N1 from the top"
pub record Carries (s : Shape) (g : Given) (container : List ℕ) : Type 0 where
  pub c2_is : get_or container (2 * s.columns) 0 ≡ g.label
  pub g1_is : get_or container (3 * s.columns) 0 ≡ g.violations * 16 + cond g.remote 8 0
  pub f2_is : get_or container (4 * s.columns) 0 ≡ g.unexamined.f2
  pub h4_is : get_or container (5 * s.columns) 0 ≡ g.unexamined.h4
  pub f3_is : get_or container (6 * s.columns) 0 ≡ g.unexamined.f3
  pub k3_is : get_or container (7 * s.columns) 0 ≡ g.unexamined.k3
  pub n1_is : get_or container (8 * s.columns) 0 ≡ g.unexamined.n1
