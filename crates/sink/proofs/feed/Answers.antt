-- `sink::feed` meets its contract: a call that is refused leaves all as it was, and any other has what its parts ask for. Assumes nothing.
use mathlib.Core.Path.{◌≡◌, ap, ◌∙◌}
use Rattle.std.proofs.Common.{Ok}
use Rattle.std.proofs.lemmas.Result.{err_from_is_err_and}
use Rattle.std.specs.Result.{result_from_control_flow}
use Rattle.sink.proofs.Feeds.{feed_refused, word_there, feed_pointed, feed_done}
use Rattle.shape.specs.Numbers.{numbers}
use Rattle.sink.proofs.feed.Goals as goal

pub returns-in_err-answer : goal.returns-in_err-answer
returns-in_err-answer c =
    let p = err_from_is_err_and c.from_residual.result c.from_residual.ensures.1 in
    rw (p.1, p.2) (feed_refused _ _ _ _ _ _ c.answer.result c.answer.ensures _ cc)

pub point-a-requires : goal.point-a-requires
point-a-requires c =
    let done : c.answer.result ≡ Ok tt = c.branch-answer.ensures ∙ ap result_from_control_flow c.in_ok-answer.is in
    search (word_there (numbers c.args.shape))

pub take_unit-u-requires : goal.take_unit-u-requires
take_unit-u-requires c =
    let done : c.answer.result ≡ Ok tt = c.branch-answer.ensures ∙ ap result_from_control_flow c.in_ok-answer.is in
    search (feed_pointed (numbers c.args.shape))

-- the stages: the call, its answer, nothing wrong, its word read, the unit taken
pub returns : goal.returns
returns c =
    let a = c.args in
    let l = c.take_unit-u in
    let done : c.answer.result ≡ Ok tt = c.branch-answer.ensures ∙ ap result_from_control_flow c.in_ok-answer.is in
    feed_done (numbers a.shape) a.s.now a.e a.unit.now a.held.now a.done.now c.answer.result c.answer.ensures done
    c.point-a.result c.point-a.ensures l.result l.new.held l.new.done _ l.ensures c.tell.ensures
