-- `pointer_state::alarm` meets its contract. Assumes nothing.
use Rattle.pointer_state.specs.State.{is_alarm}
use Rattle.laws.proofs.Tests.{tests}
use Rattle.pointer_state.proofs.Cases.{other_than_alarm}
use Rattle.pointer_state.proofs.alarm.Goals as goal

pub returns-in-Alarm : goal.returns-in-Alarm
unfolding is_alarm
returns-in-Alarm c = search tests

pub returns-in_default : goal.returns-in_default
returns-in_default c = search other_than_alarm
