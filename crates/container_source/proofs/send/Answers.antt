-- `container_source::send` meets its contract: a call that is refused leaves all as it was, and any other has what `overhead` and `rows` ask for. Assumes nothing.
use mathlib.Core.Path.{◌≡◌, ap, ◌∙◌}
use Rattle.std.proofs.Common.{Ok}
use Rattle.std.proofs.lemmas.Result.{err_from_is_err_and}
use Rattle.std.specs.Result.{result_from_control_flow}
use Rattle.container_source.proofs.SourceLaws.{send_refused, sent_place, sent_violations, sent_payload, sent_container, next_fits, send_done}
use Rattle.shape.specs.Numbers.{numbers}
use Rattle.container_source.proofs.send.Goals as goal

pub returns-in_err-answer : goal.returns-in_err-answer
returns-in_err-answer c =
    let p = err_from_is_err_and c.from_residual.result c.from_residual.ensures.1 in
    rw (p.1, p.2) (send_refused _ _ _ _ _ _ c.answer.result c.answer.ensures _ cc)

pub overhead-o-requires : goal.overhead-o-requires
overhead-o-requires c =
    let done : c.answer.result ≡ Ok tt = c.branch-answer.ensures ∙ ap result_from_control_flow c.in_ok-answer.is in
    search (sent_place, sent_violations)

pub rows-requires : goal.rows-requires
rows-requires c =
    let done : c.answer.result ≡ Ok tt = c.branch-answer.ensures ∙ ap result_from_control_flow c.in_ok-answer.is in
    search (sent_payload (numbers c.args.shape), sent_container (numbers c.args.shape))

pub overflow_add-place : goal.overflow_add-place
overflow_add-place c =
    let done : c.answer.result ≡ Ok tt = c.branch-answer.ensures ∙ ap result_from_control_flow c.in_ok-answer.is in
    search next_fits

pub returns : goal.returns
returns c =
    let done : c.answer.result ≡ Ok tt = c.branch-answer.ensures ∙ ap result_from_control_flow c.in_ok-answer.is in
    search send_done
