-- The worked table of a trace that is refused, by the check: the number, and the place of the character where it names one. Assumes nothing.
use mathlib.Core.Path.{◌≡◌, refl}
use mathlib.Core.List.{List, [], ◌∷◌, ◌++◌}
use lib.ListN.{replicate}
use Prim.Native.Nat.{ℕ}
use Rattle.refusals.specs.Refusals.{said_by}
use Rattle.settings.specs.Settings.{trace_faults}
use Rattle.settings.proofs.Opened.{opened}

-- what is said of a trace: 0 where it passes
abbrev said : List ℕ → List ℕ
said characters = said_by (0 ∷ []) (trace_faults characters)

-- `03E5` and eleven spaces passes
pub passes : said (0x30 ∷ 0x33 ∷ 0x45 ∷ 0x35 ∷ replicate 11 0x20) ≡ 0 ∷ []
unfolding opened said_by
passes = refl

-- 1F at 3 and 80 at 2: 20 at 2, as the earliest decides
pub earliest : said (0x30 ∷ 0x80 ∷ 0x1f ∷ replicate 12 0x30) ≡ 20 ∷ 2 ∷ []
unfolding opened said_by
earliest = refl

-- fifteen spaces: 21, at no place
pub fifteen_spaces : said (replicate 15 0x20) ≡ 21 ∷ []
unfolding opened said_by
fifteen_spaces = refl

-- fourteen spaces and 7F: 20 at 15
pub spaces_and_7f : said (replicate 14 0x20 ++ (0x7f ∷ [])) ≡ 20 ∷ 15 ∷ []
unfolding opened said_by
spaces_and_7f = refl

-- fifteen spaces but 00 at 15: 5 at 15
pub spaces_but_00 : said (replicate 14 0x20 ++ (0x00 ∷ [])) ≡ 5 ∷ 15 ∷ []
unfolding opened said_by
spaces_but_00 = refl
