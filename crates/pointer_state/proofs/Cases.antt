-- What is asked of a state, by the states that a way through the code leaves. Assumes nothing.
use mathlib.Core.Path.{◌≡◌, refl}
use mathlib.Core.Bool.{false}
use Prim.Native.Nat.{ℕ}
use Rattle.pointer_state.specs.State.{is_normal, is_alarm}
use Rattle.pointer_state.specs.declared.State.{State}
use Rattle.pointer_state.specs.declared.State.TheVariants.{Normal, Alarm, Lost}

pub other_than_normal : (state : State) → ((at : ℕ) → state ≡ Normal at → ⊥) → false ≡ is_normal state
unfolding is_normal
other_than_normal (Normal at) h = absurd (h at refl)
other_than_normal Alarm h = refl
other_than_normal Lost h = refl

pub other_than_alarm : (state : State) → (state ≡ Alarm → ⊥) → false ≡ is_alarm state
unfolding is_alarm
other_than_alarm (Normal at) h = refl
other_than_alarm Alarm h = absurd (h refl)
other_than_alarm Lost h = refl
