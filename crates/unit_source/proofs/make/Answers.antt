-- `unit_source::make` meets its contract: a call that is refused leaves all as it was, and any other is ready to be written. Assumes nothing.
use mathlib.Core.Path.{ap, ◌∙◌}
use Rattle.std.proofs.Common.{rules}
use Rattle.std.specs.Result.{result_from_control_flow}
use Rattle.std.proofs.lemmas.Result.{err_from_is_err_and}
use Rattle.unit_source.proofs.Answers.{made_ready, made_refused, made_done}
use Rattle.unit_source.proofs.make.Goals as goal

pub returns-in_err-answer : goal.returns-in_err-answer
returns-in_err-answer c =
    let p = err_from_is_err_and c.from_residual.result c.from_residual.ensures.1 in
    rw (p.1, p.2) (made_refused _ _ _ _ _ _ c.answer.result c.answer.ensures _ cc)

pub write-requires : goal.write-requires
write-requires c = search (rules, made_ready)

pub returns : goal.returns
returns c = made_done _ _ _ _ _ _ c.answer.result c.answer.ensures _ _ _ _ (c.branch-answer.ensures ∙ ap result_from_control_flow c.in_ok-answer.is) c.ended_by.ensures c.offset_after-offset.ensures c.wait_after-wait.ensures c.write.ensures
