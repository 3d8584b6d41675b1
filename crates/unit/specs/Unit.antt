-- The bytes of a unit that is sent, of 01, "Layouts": "H1 Y Y H2 1* 1* H3 H3 H3, then 2349 bytes in pointer order". The header is three groups, of three bytes in AU-4.
use Rattle.std.specs.Prelude.{ℕ, ◌-◌, ◌*◌, List, ◌∷◌, ◌++◌, take, drop, replicate}
use Rattle.word.specs.Word.{h1_of, h2_of}

-- a group of the header: its first byte, and the others
unfoldable pub group_of : ℕ → ℕ → ℕ → List ℕ
group_of step first others = first ∷ replicate (step - 1) others

-- "the source writes Y = 9B and 1* = FF, and 00 in unused H3 or skipped places": all up to the place where the run of container bytes begins
unfoldable pub head_of : ℕ → ℕ → ℕ → List ℕ
head_of step word from = group_of step (h1_of word) 0x9b ++ (group_of step (h2_of word) 0xff ++ replicate (from - 2 * step) 0)

-- the run: the current container from the first byte not sent, and then the next, as many bytes as there is room for
unfoldable pub run_of : ℕ → ℕ → List ℕ → List ℕ → List ℕ
run_of room sent current next = take room (drop sent current ++ next)
