-- `refusals::trace_number` meets its contract: a number for each case. Assumes nothing.
use Rattle.refusals.specs.Refusals.{trace_number}
use Rattle.refusals.proofs.trace_number.Goals as goal

pub returns-in-Below : goal.returns-in-Below
unfolding trace_number
returns-in-Below c = simp c.in-Below.is

pub returns-in-Above : goal.returns-in-Above
unfolding trace_number
returns-in-Above c = simp c.in-Above.is

pub returns-in-Spaces : goal.returns-in-Spaces
unfolding trace_number
returns-in-Spaces c = simp c.in-Spaces.is
