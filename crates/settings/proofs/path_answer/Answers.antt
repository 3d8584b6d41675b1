-- `settings::path_answer` meets its contract: the label decides first, and then what the trace is answered. Assumes nothing.
use Rattle.std.proofs.Common.{rules}
use Rattle.std.proofs.lemmas.Result.{err_from_is_err_and}
use Rattle.settings.proofs.Refuses.{wrong_label, wrong_trace, nothing_wrong}
use Rattle.settings.proofs.path_answer.Goals as goal

pub returns-then-label_refused : goal.returns-then-label_refused
returns-then-label_refused c = search wrong_label

pub returns-in_err-trace_answer : goal.returns-in_err-trace_answer
returns-in_err-trace_answer c = let p = err_from_is_err_and c.from_residual.result c.from_residual.ensures.1 in rw (p.1, p.2) (search (rules, wrong_trace))

pub returns : goal.returns
returns c = search (rules, nothing_wrong)
