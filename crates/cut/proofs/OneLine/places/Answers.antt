-- `cut::OneLine::places` meets its contract: the callees' equations, and that a cut stays within the unit. Assumes nothing.
use Rattle.cut.proofs.Within.{next_within, begin_within, places_are}
use borrow.Author.Rules.{rules}
use Rattle.shape.specs.Numbers.{numbers}
use Rattle.cut.proofs.OneLine.places.Goals as goal

pub begin_place-begin-requires : goal.begin_place-begin-requires
begin_place-begin-requires c = search (next_within, rules)

pub overflow_sub-result : goal.overflow_sub-result
overflow_sub-result c = rw c.unit_length.ensures (search begin_within)

pub returns : goal.returns
returns c = rw c.unit_length.ensures (search (places_are (numbers c.args.self.shape)))
