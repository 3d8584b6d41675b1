-- What a unit source means by the word of a unit: 01, "Reading one pointer word", its last words on adjustments.
use Rattle.std.specs.Prelude.{ℕ}
use Rattle.shape.specs.Shape.{offset_after}
use Rattle.shape.specs.declared.Adjustment.{Adjustment}
use Rattle.shape.specs.declared.Adjustment.TheVariants.{Nothing, Increment, Decrement}
use Rattle.pointer_rules.specs.declared.Taken.{Taken}
use Rattle.pointer_rules.specs.declared.Taken.TheVariants as taken

-- How a sink that is at the source's offset should take the word: plain where no adjustment was asked for; else as the adjustment, and the offset that it leads to,
-- for "a new offset holds in the same unit"
unfoldable pub meant : ℕ → Adjustment → ℕ → Taken
meant top Nothing offset = taken.Plain
meant top Increment offset = taken.Adjusted Increment (offset_after top Increment offset)
meant top Decrement offset = taken.Adjusted Decrement (offset_after top Decrement offset)
