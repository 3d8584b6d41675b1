-- `pointer_state::normal` meets its contract. Assumes nothing.
use Rattle.pointer_state.specs.State.{is_normal}
use Rattle.laws.proofs.Tests.{tests}
use Rattle.pointer_state.proofs.Cases.{other_than_normal}
use Rattle.pointer_state.proofs.normal.Goals as goal

pub returns-in-Normal : goal.returns-in-Normal
unfolding is_normal
returns-in-Normal c = search tests

pub returns-in_default : goal.returns-in_default
returns-in_default c = search other_than_normal
