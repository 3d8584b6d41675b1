-- `pointer_state::is_placed` meets its contract: an answer for each case. Assumes nothing.
use mathlib.Core.Logic.{inl, inr}
use mathlib.Core.Path.{refl}
use Rattle.pointer_state.specs.State.{placed}
use Rattle.pointer_state.proofs.is_placed.Goals as goal

pub returns-in-Normal : goal.returns-in-Normal
unfolding placed
returns-in-Normal c = simp c.in-Normal.is

pub returns-in-Alarm : goal.returns-in-Alarm
unfolding placed
returns-in-Alarm c = elim c.in-Alarm.is [ inl h ↦ rw h refl | inr h ↦ rw h refl ]
