-- `quotes::behind` meets its contract: what is behind the rest is behind the whole. Assumes nothing.
use mathlib.Core.Path.{sym, ◌∙◌}
use native.Mathlib.Omega.{arith}
use Rattle.quotes.proofs.Laws.{said_behind, said_less, closes_behind}
use Rattle.quotes.proofs.behind.Goals as goal

pub loop-further-smaller : goal.loop-further-smaller
loop-further-smaller c = omega (arith, said_less _ _ _ c.in-Some.ensures)

pub loop-further-preserved : goal.loop-further-preserved
loop-further-preserved c = sym (said_behind _ _ _ c.in-Some.ensures) ∙ c.loop-further.invariant

pub returns : goal.returns
returns c = closes_behind c.loop-further.rest.now c.from.result.now c.in_default.ensures c.from.ensures ∙ c.loop-further.invariant
