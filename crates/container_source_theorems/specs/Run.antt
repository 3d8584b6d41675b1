-- A run of one container source: call after call, each with the state that the call before left. The calls are numbered from 0.
use Rattle.std.specs.Prelude.{List, ℕ, zero, suc}
use Rattle.shape.specs.Shape.{Shape}
use Rattle.container_source.specs.Source.{SentOutcome, container_source}
use Rattle.container_source.specs.declared.State.{State}
use Rattle.container_source.specs.declared.Given.{Given}

-- what one call is given, and the container it is lent
pub record ContainerSourceCall : Type 0 where
  pub given : Given
  pub trace : List ℕ
  pub payload : List ℕ
  pub lent : List ℕ

-- what it leaves
abbrev pub container_source_called : Shape → State → ContainerSourceCall → SentOutcome
container_source_called s state c = container_source s state c.given c.trace c.payload c.lent

-- ---- a run, from the state `first` on

-- the state before call k
unfoldable pub state_at : Shape → State → (ℕ → ContainerSourceCall) → ℕ → State
state_at s first calls zero = first
state_at s first calls (suc k) = (container_source_called s (state_at s first calls k) (calls k)).sent.state

-- what call k leaves
abbrev pub outcome_at : Shape → State → (ℕ → ContainerSourceCall) → ℕ → SentOutcome
outcome_at s first calls k = container_source_called s (state_at s first calls k) (calls k)

-- its container
abbrev pub container_at : Shape → State → (ℕ → ContainerSourceCall) → ℕ → List ℕ
container_at s first calls k = (outcome_at s first calls k).container
