-- Whoever counts the columns of a run that settles counts 0 in each container: 01's "zero parity violations", as a number. Assumes nothing.
use mathlib.Core.Path.{◌≡◌, refl, ap, ap₂, ◌∙◌}
use mathlib.Core.List.{List, ◌∷◌, map}
use Prim.Native.Nat.{ℕ, zero, suc, ◌≤◌}
use lib.ListN.{replicate}
use Rattle.shape.specs.Shape.{Shape}
use Rattle.overhead.specs.Violations.{violations_of}
use Rattle.overhead.proofs.Columns.{none_counted}
use Rattle.settles_stream.specs.InOrder.{violated_told}
use Rattle.settles.specs.Demand.{Run, Log, Settles}

counted_all : (n : ℕ) → map violations_of (replicate n 0x00) ≡ replicate n 0
counted_all zero = refl
counted_all (suc n) = ap₂ (λ (v : ℕ) (vs : List ℕ). v ∷ vs) none_counted (counted_all n)

pub zero_violations : (within : ℕ) (s : Shape) (r : Run) (g : Log) → Settles within s r g → (n : ℕ) → within ≤ n
    → map violations_of (violated_told (g.received n).ended) ≡ replicate (g.made n).ended 0
zero_violations within s r g h n w = ap (map violations_of) (h.no_column n w) ∙ counted_all (g.made n).ended
