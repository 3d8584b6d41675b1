-- `container::rows` meets its contract: the rows written, and those to come, are the container. Assumes nothing.
use mathlib.Core.Path.{◌≡◌}
use mathlib.Core.List.{◌++◌}
use Prim.Native.Nat.{◌+◌, ◌*◌}
use lib.ListN.{length, take, drop}
use Rattle.container.specs.Container.{rows_of}
use Rattle.container.proofs.rows.Given as goal

abbrev pub invariant-loop-row : goal.invariant-loop-row
invariant-loop-row l = (length l.byte-items ≡ 9)
    × (take (l.row * (l.width + 1)) l.container ++ rows_of l.width (drop l.row l.byte-items) (drop (l.row * l.width) l.payload) ≡ rows_of l.width l.byte-items l.payload)
