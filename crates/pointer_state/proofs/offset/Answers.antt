-- `pointer_state::offset` meets its contract: an answer for each case. Assumes nothing.
use mathlib.Core.Logic.{inl, inr}
use mathlib.Core.Path.{refl}
use Rattle.pointer_state.specs.State.{offset_of}
use Rattle.pointer_state.proofs.offset.Goals as goal

pub returns-in-Normal : goal.returns-in-Normal
unfolding offset_of
returns-in-Normal c = simp c.in-Normal.is

pub returns-in-Alarm : goal.returns-in-Alarm
unfolding offset_of
returns-in-Alarm c = elim c.in-Alarm.is [ inl h ↦ rw h refl | inr h ↦ rw h refl ]
