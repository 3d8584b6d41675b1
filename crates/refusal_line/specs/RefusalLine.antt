-- The one line that a program prints for what it refuses, of 01: "a refused file prints one line: its number, then the place (13: later, then first; 9: none)".
use Rattle.std.specs.Prelude.{ℕ, List, [], ◌∷◌, ◌++◌}
use Rattle.text.specs.Text.{decimal_of}

-- numbers, a blank before each
unfoldable pub blank_before : List ℕ → List ℕ
blank_before [] = []
blank_before (x ∷ xs) = 0x20 ∷ (decimal_of x ++ blank_before xs)

-- the number, the places that it names, and LF: `13 5 2`, `20 4 2`, `21 4`, `9`
unfoldable pub refusal_line : ℕ → List ℕ → List ℕ
refusal_line number places = decimal_of number ++ (blank_before places ++ (0x0a ∷ []))
