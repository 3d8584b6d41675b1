-- `digits::is_number` meets its contract. Assumes nothing.
use Rattle.std.proofs.Common.{rules, tests}
use Rattle.digits.proofs.Laws.{number_made, number_not}
use Rattle.digits.proofs.is_number.Goals as goal

pub returns-then-contains : goal.returns-then-contains
returns-then-contains c = number_made c.args.most c.args.s.now c.contains.result (search (rules, tests)) c.digits_only.result c.if-contains.true c.digits_only.ensures

pub returns-else-contains : goal.returns-else-contains
returns-else-contains c = number_not c.args.most c.args.s.now c.contains.result (search (rules, tests)) c.if-contains.false
