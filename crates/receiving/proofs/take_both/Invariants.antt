-- `receiving::take_both` meets its contract: what was seen last and before it, after as many of the two as were taken in. Assumes nothing.
use mathlib.Core.Path.{◌≡◌}
use Prim.Native.Nat.{◌-◌}
use Rattle.receiving.proofs.Leaves.{last_seen}
use Rattle.receiving.proofs.take_both.Given as goal

abbrev pub invariant-loop-o : goal.invariant-loop-o
invariant-loop-o l =
    (l.later ≡ last_seen l.o-index l.fn.completed l.fn.inside l.e l.initial.later) × (l.earlier ≡ last_seen (l.o-index - 1) l.fn.completed l.fn.inside l.e l.initial.later)
