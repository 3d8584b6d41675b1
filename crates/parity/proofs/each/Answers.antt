-- `parity::each` meets its contract: the fold of the exclusive or is the parity. Assumes nothing.
use Rattle.std.proofs.Common.{rules}
use Rattle.parity.proofs.Laws.{parity_gathered}
use Rattle.parity.proofs.each.Goals as goal

pub returns : goal.returns
returns c = search (rules, parity_gathered)
