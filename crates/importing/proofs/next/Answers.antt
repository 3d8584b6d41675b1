-- `importing::next` meets its contract: what stands before the first LF, and behind it. Assumes nothing.
use mathlib.Core.Path.{refl}
use Rattle.importing.proofs.Walk.{parts, no_lines}
use Rattle.importing.proofs.next.Goals as goal

pub returns-then-is_empty : goal.returns-then-is_empty
returns-then-is_empty c = no_lines _ c.if-is_empty.ensures

pub returns : goal.returns
returns c = parts _ _ _ _ c.if-is_empty.ensures c.before-line.ensures c.behind.ensures refl
