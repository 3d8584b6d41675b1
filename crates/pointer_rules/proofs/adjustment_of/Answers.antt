-- `pointer_rules::adjustment_of` meets its contract. Assumes nothing.
use Rattle.pointer_rules.specs.Rules.{adjustment_of}
use Rattle.pointer_rules.proofs.Takes.{no_adjustment}
use Rattle.pointer_rules.proofs.adjustment_of.Goals as goal

pub returns-in-Adjusted : goal.returns-in-Adjusted
unfolding adjustment_of
returns-in-Adjusted c = simp c.in-Adjusted.is

pub returns-in_default : goal.returns-in_default
returns-in_default c = search no_adjustment
