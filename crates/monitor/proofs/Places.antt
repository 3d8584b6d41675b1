-- Where the bytes that are seen lie in a container, whatever its bytes. Assumes nothing.
use mathlib.Core.Path.{◌≡◌, refl}
use mathlib.Core.List.{List}
use Prim.Native.Nat.{ℕ, ◌*◌, ◌<◌}
use native.Mathlib.Nat.{zero-mul, one-mul}
use native.Mathlib.Omega.{arith}
use lib.ListN.{length, get_or}
use Rattle.parity.specs.Parity.{parity_of}
use Rattle.container.proofs.Places.{overhead_at}
use Rattle.monitor.specs.Seeing.{seen_in}

pub seen_at : (columns : ℕ) (c : List ℕ) → 0 < columns → seen_in columns c ≡ record { j1 = get_or c 0 0; b3 = get_or c columns 0; c2 = get_or c (2 * columns) 0; g1 = get_or c (3 * columns) 0; parity = parity_of c }
unfolding seen_in
seen_at columns c some =
    rw (
      overhead_at columns c 0 some (omega arith),
      overhead_at columns c 1 some (omega arith),
      overhead_at columns c 2 some (omega arith),
      overhead_at columns c 3 some (omega arith),
      zero-mul columns,
      one-mul columns,
    )

-- the four bytes that were read, and the parity of all
pub seen_read : (columns : ℕ) (c : List ℕ) (p : ℕ) → (0 < columns) × (3 * columns < length c) → p ≡ parity_of c
    → record { j1 = get_or c 0 0; b3 = get_or c columns 0; c2 = get_or c (2 * columns) 0; g1 = get_or c (3 * columns) 0; parity = p } ≡ seen_in columns c
seen_read columns c p a e = rw (seen_at columns c a.0, e) refl
