-- The totals of both runs after 67 units, computed from the definitions. Assumes nothing.
use mathlib.Core.Path.{◌≡◌, refl}
use Rattle.shape.specs.Shape.{au4}
use Rattle.settles.specs.Demand.{path_at}
use Rattle.settles.proofs.Opened.{opened}
use Rattle.settles_tight.specs.Signal.{trace, given}
use Rattle.settles_tight.specs.Runs.{twice, worst, up_and_down, early}

-- the worst run: 66
pub worst_total : (path_at au4 worst 67).state.total ≡ 66
unfolding opened trace given twice worst
worst_total = refl

-- the early one: 6 before it, and 67 more
pub early_before : early.state.total ≡ 6
unfolding opened trace early
early_before = refl

pub early_total : (path_at au4 early 67).state.total ≡ 73
unfolding opened trace given up_and_down early
early_total = refl
