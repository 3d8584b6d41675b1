-- `refusals::trace_place` meets its contract: the place of each case. Assumes nothing.
use Rattle.refusals.specs.Refusals.{trace_places}
use Rattle.refusals.proofs.Cases.{place_as_trace}
use Rattle.refusals.proofs.trace_place.Goals as goal

pub returns-in-Below : goal.returns-in-Below
unfolding trace_places
returns-in-Below c = search place_as_trace

pub returns-in-Above : goal.returns-in-Above
unfolding trace_places
returns-in-Above c = search place_as_trace

pub returns-in-Spaces : goal.returns-in-Spaces
unfolding trace_places
returns-in-Spaces c = search place_as_trace
