-- A short run, computed from the definitions of the statement: what a wrong one, a source that loses a container, a total that does not rise, a sink that hands nothing on or
-- the first unit over and over, comes to is another number or another list. The containers are 18 bytes, each of its own number. Assumes nothing.
use mathlib.Core.Path.{◌≡◌, refl}
use mathlib.Core.Bool.{true, cond}
use mathlib.Core.List.{[], ◌∷◌}
use native.Mathlib.Omega.{arith}
use lib.Dec.{eqb}
use lib.ListN.{replicate}
use Rattle.shape.specs.Shape.{Shape, Fit}
use Rattle.shape.specs.declared.Adjustment.TheVariants.{Nothing, Increment}
use Rattle.sink.specs.Sink.{fresh_sink}
use Rattle.settles.specs.Demand.{Run, path_at, received_at, handed_at}
use Rattle.settles.proofs.Opened.{opened}

-- nine rows of two bytes, and a byte a step
abbrev small : Shape
small = record { step = 1; size = 18; top = 17; columns = 2 }

-- its numbers fit each other
pub small_fit : Fit small
small_fit = record { some = omega arith; fills = refl; nine = refl; two = omega arith; ten = omega arith; low = omega arith }

-- a source at 17 that goes up to 0 in the fifth unit, and a fresh sink
abbrev run : Run
run =
    record {
      box = λ k. replicate 18 k;
      ask = λ n. cond (eqb n 4) Increment Nothing;
      settings = record { label = 0x12; trace = replicate 15 0x30; flags = record { monitored = true; rdi = true; ssf = true; ais = true } };
      source = record { offset = 17; wait = 3 };
      state = fresh_sink;
      unit = replicate 21 0;
      held = replicate 18 0;
      done = replicate 18 0;
    }

-- eight units end eight containers, also where the offset goes from 17 to 0
pub all_sent : (path_at small run 8).source.number ≡ 8
unfolding opened
all_sent = refl

-- and all eight are counted as unsettled
pub all_counted : (path_at small run 8).state.total ≡ 8
unfolding opened
all_counted = refl

-- the sink is locked by the third: the fourth hands back the container completed in the done buffer, the sixth the one inside it
pub one_completed : handed_at small run (path_at small run) (received_at small run) 3 ≡ replicate 18 3 ∷ []
unfolding opened
one_completed = refl

pub one_inside : handed_at small run (path_at small run) (received_at small run) 5 ≡ replicate 18 5 ∷ []
unfolding opened
one_inside = refl
