-- `split::begins` meets its contract. Assumes nothing.
use mathlib.Core.Path.{refl, ◌∙◌}
use Rattle.split.proofs.Laws.{opens_first}
use Rattle.split.proofs.begins.Goals as goal

pub returns : goal.returns
returns c = c.eq.ensures ∙ opens_first c.args.s.now c.args.b c.first.result _ refl c.first.ensures.value
