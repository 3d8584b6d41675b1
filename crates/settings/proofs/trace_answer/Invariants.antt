-- `settings::trace_answer` meets its contract: no character before i is wrong, so what is left decides. Assumes nothing.
use mathlib.Core.Path.{◌≡◌}
use Rattle.settings.specs.Settings.{trace_faults, judged}
use Rattle.settings.proofs.Laws.{left}
use Rattle.settings.proofs.trace_answer.Given as goal

abbrev pub invariant-loop-i : goal.invariant-loop-i
invariant-loop-i l = left l.characters l.i ≡ judged (trace_faults l.characters)
