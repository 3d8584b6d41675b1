-- Bits turned over on the way, and lines that are stuck: 02, ask 5, "a stuck line in a cross-connect".
use Rattle.std.specs.Prelude.{◌≡◌, Bool, false, cond, not, List, [], ◌∷◌, map, ℕ, ◌/◌, ◌%◌, ◌^◌, ◌<◌, length, get_or}
use Rattle.std.specs.Int.Bits.{bit_xor}
use Rattle.overhead.specs.Violations.{violated_of, kept_of}
use Rattle.monitor.specs.Seeing.{seen_in}

-- the columns told of container y, by the parity that container x left: no restart and no SSF came between
abbrev pub told_after : ℕ → List ℕ → List ℕ → ℕ
told_after columns x y = violated_of (kept_of (seen_in columns x).parity) (seen_in columns y).b3

-- bytes, and of each the bits turned over that are 1 in the byte of `bits` at its place
unfoldable pub turned_over : List ℕ → List ℕ → List ℕ
turned_over [] bits = []
turned_over (b ∷ bs) [] = b ∷ bs
turned_over (b ∷ bs) (d ∷ ds) = bit_xor b d ∷ turned_over bs ds

-- bits of one line, `line` being 01 to 80: turned over in the bytes that are hit
abbrev pub on_line : ℕ → List Bool → List ℕ
on_line line hits = map (λ (hit : Bool). cond hit line 0x00) hits

-- whether an odd number is hit
unfoldable pub odd : List Bool → Bool
odd [] = false
odd (hit ∷ hits) = cond hit (not (odd hits)) (odd hits)

-- bit k of every byte is the same, k counted from 0 at the lowest: that line is stuck
abbrev pub Stuck : ℕ → ℕ → List ℕ → Type 0
Stuck k bit bytes = (i : ℕ) → i < length bytes → get_or bytes i 0 / 2 ^ k % 2 ≡ bit
