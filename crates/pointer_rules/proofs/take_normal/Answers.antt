-- `pointer_rules::take_normal` meets its contract: the tests of rule 4, in their order. Assumes nothing.
use Rattle.pointer_rules.proofs.Takes.{normal_plain, normal_too_soon, normal_adjusts, normal_other_kind}
use Rattle.pointer_rules.proofs.take_normal.Goals as goal

pub returns-then-not-of_kind : goal.returns-then-not-of_kind
returns-then-not-of_kind c = search normal_other_kind

pub returns-then-value-offset : goal.returns-then-value-offset
returns-then-value-offset c = search normal_plain

pub returns-then-wait-lt3 : goal.returns-then-wait-lt3
returns-then-wait-lt3 c = search normal_too_soon

pub returns-else-wait-lt3 : goal.returns-else-wait-lt3
returns-else-wait-lt3 c = search normal_adjusts
