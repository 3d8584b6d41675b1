-- `container::strip` meets its contract: the rows taken, and those to come, are the payload. Assumes nothing.
use mathlib.Core.Path.{◌≡◌}
use mathlib.Core.List.{◌++◌}
use Prim.Native.Nat.{◌+◌, ◌*◌, ◌-◌}
use lib.ListN.{take, drop}
use Rattle.container.specs.Container.{strip_of}
use Rattle.container.proofs.strip.Given as goal

abbrev pub invariant-loop-row : goal.invariant-loop-row
invariant-loop-row l = take (l.row * l.width) l.payload ++ strip_of l.width (9 - l.row) (drop (l.row * (l.width + 1)) l.container) ≡ strip_of l.width 9 l.container
