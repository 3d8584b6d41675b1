-- The pointer word of 01, "Layouts": H1 and H2 as one number of sixteen bits, H1 high.
use Rattle.std.specs.Prelude.{ℕ, ◌+◌, ◌*◌, ◌/◌, ◌%◌, Bool, cond, ◌&&◌, List, [], ◌∷◌, eqb, leb, length, get_or}
use Rattle.std.specs.Int.Bits.{bit_and, bit_xor}
use Rattle.std.specs.Int.Count.{ones}
use Rattle.word.specs.declared.Ndf.{Ndf}
use Rattle.word.specs.declared.Ndf.TheVariants.{Neither, Normal, Enabled}

-- "Pointer word (H1, H2)"
abbrev pub word_of : ℕ → ℕ → ℕ
word_of h1 h2 = h1 * 256 + h2

abbrev pub h1_of : ℕ → ℕ
h1_of w = w / 256

abbrev pub h2_of : ℕ → ℕ
h2_of w = w % 256

-- ---- reading: "four NDF bits, two SS bits, ten bits I D I D I D I D I D"

-- the kinds of NDF, by the numbers that the host's word reading gives them: "neither 0, normal 1, enabled 2"
abbrev pub neither : ℕ
neither = 0

abbrev pub normal : ℕ
normal = 1

abbrev pub enabled : ℕ
enabled = 2

unfoldable pub number_of : Ndf → ℕ
number_of Neither = neither
number_of Normal = normal
number_of Enabled = enabled

-- "NDF normal: 0110, 1110, 0010, 0100, 0111. Enabled: 1001, 0001, 1101, 1011, 1000. The other six are neither."
abbrev pub kinds : List Ndf
kinds =
    Neither ∷ Enabled ∷ Normal ∷ Neither
    ∷ Normal ∷ Neither ∷ Normal ∷ Normal
    ∷ Enabled ∷ Enabled ∷ Neither ∷ Enabled
    ∷ Neither ∷ Enabled ∷ Normal ∷ Neither ∷ []

unfoldable pub kind_of : ℕ → Ndf
kind_of w = get_or kinds (w / 4096) Neither

unfoldable pub ss_of : ℕ → ℕ
ss_of w = w / 1024 % 4

unfoldable pub value_of : ℕ → ℕ
value_of w = w % 1024

-- the host's word reading: "4096 times the NDF kind .. plus 1024 times SS plus the value, and 0 unless given 2 bytes"
unfoldable pub reading_of : List ℕ → ℕ
reading_of s =
    let w = word_of (get_or s 0 0) (get_or s 1 0) in
    cond (eqb (length s) 2) (4096 * number_of (kind_of w) + 1024 * ss_of w + value_of w) 0

-- NDF of the kind k and SS 10
unfoldable pub of_kind : ℕ → ℕ → Bool
of_kind k w = eqb (number_of (kind_of w)) k && eqb (ss_of w) 2

-- NDF of the kind k, SS 10, the value in range: "value 0 to 782", and in TU-3 0 to 764
unfoldable pub good : ℕ → ℕ → ℕ → Bool
good k top w = of_kind k w && leb (value_of w) top

-- ---- the bits that differ from an offset's

-- the places of the I bits, 10 1010 1010, and of the D bits, 01 0101 0101
abbrev pub bits_i : ℕ
bits_i = 0x2aa

abbrev pub bits_d : ℕ
bits_d = 0x155

-- how many of the bits at the places m are inverted against the offset
unfoldable pub inverted : ℕ → ℕ → ℕ → ℕ
inverted m w offset = ones (bit_and (bit_xor (value_of w) offset) m)

-- ---- writing: "The source writes 0110 and SS 10"

-- the word of the value v, in ten bits
abbrev pub plain_word : ℕ → ℕ
plain_word v = 0x6800 + v % 1024

-- the word with the bits at the places m inverted: an increment with the I bits, a decrement with the D bits
abbrev pub inverted_word : ℕ → ℕ → ℕ
inverted_word m v = plain_word (bit_xor v m)
