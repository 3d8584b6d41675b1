-- `cut::cut_unit` meets its contract: the cut, and what the two copies leave. Assumes nothing.
use Rattle.cut.proofs.Copies.{rest_is_end, rest_fits, unit_cut}
use Rattle.cut.proofs.cut_unit.Goals as goal

pub keep-requires : goal.keep-requires
keep-requires c = search (rest_is_end, rest_fits)

pub returns : goal.returns
returns c = search unit_cut fits 20000
