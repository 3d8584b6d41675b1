-- `refusals::number_of` meets its contract: a number for each case. Assumes nothing.
use Rattle.refusals.specs.Refusals.{number_of}
use Rattle.refusals.proofs.Cases.{number_as}
use Rattle.refusals.proofs.number_of.Goals as goal

pub returns-in-Unit : goal.returns-in-Unit
unfolding number_of
returns-in-Unit c = simp c.in-Unit.is

pub returns-in-Payload : goal.returns-in-Payload
unfolding number_of
returns-in-Payload c = simp c.in-Payload.is

pub returns-in-Container : goal.returns-in-Container
unfolding number_of
returns-in-Container c = simp c.in-Container.is

pub returns-in-Label : goal.returns-in-Label
unfolding number_of
returns-in-Label c = simp c.in-Label.is

pub returns-in-Trace : goal.returns-in-Trace
unfolding number_of
returns-in-Trace c = search number_as

pub returns-in-Violations : goal.returns-in-Violations
unfolding number_of
returns-in-Violations c = simp c.in-Violations.is

pub returns-in-Adjustment : goal.returns-in-Adjustment
unfolding number_of
returns-in-Adjustment c = simp c.in-Adjustment.is

pub returns-in-State : goal.returns-in-State
unfolding number_of
returns-in-State c = simp c.in-State.is
