-- What the functions that make the overhead bytes have to show at each of their ends. Assumes nothing.
use mathlib.Core.Path.{◌≡◌, refl}
use mathlib.Core.Bool.{Bool, true, false}
use mathlib.Core.List.{List, [], ◌∷◌}
use Prim.Native.Nat.{ℕ, zero, suc, ◌+◌, ◌-◌, ◌*◌}
use native.Mathlib.Nat.{add-zero}
use native.Mathlib.Numerals.{sub-one}
use lib.ListN.{get_or}
use Rattle.trace_message.specs.Message.{start_byte, message}
use Rattle.container_source.specs.Overhead.{j1_of, g1_of, overhead_of}
use Rattle.container_source.specs.declared.State.{State}
use Rattle.container_source.specs.declared.Given.{Given}

-- ---- J1

pub j1_start : (place : ℕ) (trace : List ℕ) (b : ℕ) → place ≡ 0 → b ≡ start_byte trace → b ≡ j1_of place trace
unfolding j1_of message
j1_start place trace b z e = rw (z, e)

pub j1_later : (place i : ℕ) (trace : List ℕ) → (place ≡ 0 → ⊥) → i ≡ place - 1 → get_or trace i 0 ≡ j1_of place trace
unfolding j1_of message
j1_later zero i trace h e = absurd (h refl)
j1_later (suc n) i trace h e = rw (e, sub-one)

-- ---- G1

pub g1_remote : (violations : ℕ) (remote : Bool) → remote ≡ true → violations * 16 + 8 ≡ g1_of violations remote
unfolding g1_of
g1_remote violations remote e = rw e

pub g1_clear : (violations : ℕ) (remote : Bool) → remote ≡ false → violations * 16 ≡ g1_of violations remote
unfolding g1_of
g1_clear violations remote e = rw (e, add-zero)

-- ---- all nine

pub overhead_is :
    (s : State) (g : Given) (trace : List ℕ) (j e : ℕ) →
    j ≡ j1_of s.place trace
    → e ≡ g1_of g.violations g.remote
    → (j ∷ s.parity ∷ g.label ∷ e ∷ g.unexamined.f2 ∷ g.unexamined.h4 ∷ g.unexamined.f3 ∷ g.unexamined.k3 ∷ g.unexamined.n1 ∷ []) ≡ overhead_of s g trace
unfolding overhead_of
overhead_is s g trace j e p q = rw (p, q)
