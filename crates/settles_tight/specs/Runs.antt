-- Two runs of that signal: the worst of all that meet the hypotheses of demand 3, and one with an adjustment too early.
use Rattle.std.specs.Prelude.{ℕ, ◌%◌, cond, ◌||◌, List, [], ◌∷◌, eqb, replicate}
use Rattle.shape.specs.Shape.{au4}
use Rattle.shape.specs.declared.Adjustment.{Adjustment}
use Rattle.shape.specs.declared.Adjustment.TheVariants.{Nothing, Increment, Decrement}
use Rattle.sink_theorems.specs.Reach.{SinkCall, reached}
use Rattle.settles.specs.Demand.{Run}
use Rattle.settles_tight.specs.Signal.{settings, run}

-- ---- the worst

-- A fresh sink is locked by the third unit. The first container that it then gets whole, the fourth of the run, has in J1 the byte after the start byte: 15 stray bytes and three
-- messages are 63 containers. In the ninth unit the source steps from 782 to 0, and in the thirteenth from 0 to 1, which ends none: so the 63rd ends in the 67th unit.
unfoldable pub twice : ℕ → Adjustment
twice n = cond (eqb n 8 || eqb n 12) Increment Nothing

unfoldable pub worst : Run
worst = run 14 twice (reached au4 [])

-- ---- too early

-- The sink was locked at 0, took new data there, and then two plain units, so that its wait is 2. 0 and 782 differ in three I and two D bits: the second unit of the run, at 782,
-- is taken for an increment. The increment of the fifth then comes too early for the sink, and so does each adjustment after it, up and down in turn every four units.
abbrev pub feeding : ℕ → SinkCall
feeding h1 = record { settings = settings; unit = h1 ∷ replicate 2357 0; held = replicate 2349 0; done = replicate 2349 0 }

abbrev pub before : List SinkCall
before = feeding 0x68 ∷ feeding 0x68 ∷ feeding 0x68 ∷ feeding 0x98 ∷ feeding 0x68 ∷ feeding 0x68 ∷ []

unfoldable pub up_and_down : ℕ → Adjustment
up_and_down n = cond (eqb n 0) Nothing (cond (eqb (n % 8) 4) Increment (cond (eqb (n % 8) 0) Decrement Nothing))

unfoldable pub early : Run
early = run 14 up_and_down (reached au4 before)
