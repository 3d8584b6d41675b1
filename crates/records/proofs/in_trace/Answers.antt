-- `records::in_trace` meets its contract: the places of each case, behind the record's. Assumes nothing.
use Rattle.refusals.specs.Refusals.{trace_places}
use Rattle.records.proofs.in_trace.Goals as goal

pub returns-in-Below : goal.returns-in-Below
unfolding trace_places
returns-in-Below c = simp c.in-Below.is

pub returns-in-Above : goal.returns-in-Above
unfolding trace_places
returns-in-Above c = simp c.in-Above.is

pub returns-in-Spaces : goal.returns-in-Spaces
unfolding trace_places
returns-in-Spaces c = simp c.in-Spaces.is
