-- The state of the pointer: 01, "Reading one pointer word".
use Rattle.std.specs.Prelude.{ℕ, Bool, true, false, leb}
use Rattle.pointer_state.specs.declared.State.{State}
use Rattle.pointer_state.specs.declared.State.TheVariants.{Normal, Alarm, Lost}

-- "The state is normal with its offset, alarm or lost"
unfoldable pub is_normal : State → Bool
is_normal (Normal at) = true
is_normal Alarm = false
is_normal Lost = false

unfoldable pub is_alarm : State → Bool
is_alarm (Normal at) = false
is_alarm Alarm = true
is_alarm Lost = false

unfoldable pub is_lost : State → Bool
is_lost (Normal at) = false
is_lost Alarm = false
is_lost Lost = true

unfoldable pub offset_of : State → ℕ
offset_of (Normal at) = at
offset_of Alarm = 0
offset_of Lost = 0

-- "Its offset is a pointer value"
unfoldable pub placed : ℕ → State → Bool
placed top (Normal at) = leb at top
placed top Alarm = true
placed top Lost = true
