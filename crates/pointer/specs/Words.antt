-- Word after word: what the theorems about a row of words speak of.
use Rattle.std.specs.Prelude.{ℕ, List, [], ◌∷◌}
use Rattle.pointer_rules.specs.declared.Taken.{Taken}
use Rattle.pointer.specs.declared.Pointer.{Pointer}
use Rattle.pointer.specs.Machine.{pointer_step}

-- the pointer after the word w
abbrev pub after_word : Pointer → ℕ → ℕ → Pointer
after_word s top w = (pointer_step s top w).pointer

-- the pointer after the words ws
unfoldable pub after_words : Pointer → ℕ → List ℕ → Pointer
after_words s top [] = s
after_words s top (w ∷ ws) = after_words (after_word s top w) top ws

-- how each of the words ws is taken
unfoldable pub takens : Pointer → ℕ → List ℕ → List Taken
takens s top [] = []
takens s top (w ∷ ws) = (pointer_step s top w).taken ∷ takens (after_word s top w) top ws
