-- Worked examples, computed by the check from the definitions. Assumes nothing.
use mathlib.Core.Path.{◌≡◌, refl}
use mathlib.Core.List.{[], ◌∷◌}
use Rattle.trace_message.specs.Message.{coefficients, polynomial, minus, remainder, number, check7, start_byte}

-- the published check value of this polynomial: the bytes "123456789" give 75 hex
pub digits : check7 (0x31 ∷ 0x32 ∷ 0x33 ∷ 0x34 ∷ 0x35 ∷ 0x36 ∷ 0x37 ∷ 0x38 ∷ 0x39 ∷ []) ≡ 0x75
unfolding coefficients polynomial minus remainder number check7
digits = refl

-- the characters "03E5" and eleven spaces
pub spaces : start_byte (0x30 ∷ 0x33 ∷ 0x45 ∷ 0x35 ∷ 0x20 ∷ 0x20 ∷ 0x20 ∷ 0x20 ∷ 0x20 ∷ 0x20 ∷ 0x20 ∷ 0x20 ∷ 0x20 ∷ 0x20 ∷ 0x20 ∷ []) ≡ 0x8B
unfolding coefficients polynomial minus remainder number check7 start_byte
spaces = refl
