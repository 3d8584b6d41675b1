-- `container::rows` meets its contract: the rows written, and those to come, are the container. Assumes nothing.
use borrow.Author.Rules.{rules}
use Rattle.container.proofs.RowLaws.{rows_begin, rows_turn, rows_end}
use Rattle.container.proofs.rows.Goals as goal

pub loop-row-init : goal.loop-row-init
loop-row-init c = (search rules, search rows_begin)

pub loop-row-preserved : goal.loop-row-preserved
loop-row-preserved c = (search rules, search (rows_turn, rules))

pub returns : goal.returns
returns c = search rows_end
