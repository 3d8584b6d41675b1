-- `container::strip` meets its contract: the rows taken, and those to come, are the payload. Assumes nothing.
use borrow.Author.Rules.{rules}
use Rattle.container.proofs.RowLaws.{strip_begin, strip_turn, strip_end}
use Rattle.container.proofs.strip.Goals as goal

pub loop-row-init : goal.loop-row-init
loop-row-init c = search strip_begin

pub loop-row-preserved : goal.loop-row-preserved
loop-row-preserved c = search (strip_turn, rules)

pub returns : goal.returns
returns c = search strip_end
