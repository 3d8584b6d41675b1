-- The nine overhead bytes that a container source writes, of 01, "Layouts": "Column 1 holds J1, B3, C2, G1, F2, H4, F3, K3, N1 from the top".
use Rattle.std.specs.Prelude.{ℕ, ◌+◌, ◌*◌, Bool, cond, List, [], ◌∷◌, get_or}
use Rattle.trace_message.specs.Message.{message}
use Rattle.container_source.specs.declared.State.{State}
use Rattle.container_source.specs.declared.Given.{Given}

-- "J1 carries 16 bytes in turn: a start byte .. then 15 characters"
unfoldable pub j1_of : ℕ → List ℕ → ℕ
j1_of place trace = get_or (message trace) place 0

-- "bits 1-4 the violations returned, bit 5 remote defect, the rest sent 0"
unfoldable pub g1_of : ℕ → Bool → ℕ
g1_of violations remote = violations * 16 + cond remote 8 0

-- "from the top"; "B3 is the exclusive or of all 2349 bytes of the container before", which the state keeps
unfoldable pub overhead_of : State → Given → List ℕ → List ℕ
overhead_of s g trace =
    j1_of s.place trace
    ∷ s.parity
    ∷ g.label
    ∷ g1_of g.violations g.remote
    ∷ g.unexamined.f2
    ∷ g.unexamined.h4
    ∷ g.unexamined.f3
    ∷ g.unexamined.k3
    ∷ g.unexamined.n1
    ∷ []
