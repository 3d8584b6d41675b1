-- `container_source::answer` meets its contract: the first test that says so decides, in the order of `send_faults`. Assumes nothing.
use native.Mathlib.Omega.{arith}
use Rattle.std.proofs.Common.{rules}
use Rattle.std.proofs.lemmas.Result.{err_from_is_err_and}
use Rattle.container_source.proofs.SourceLaws.{answer_state, answer_path, answer_payload, answer_container, answer_violations, answer_done}
use Rattle.container_source.proofs.answer.Goals as goal

pub returns-then-place-gt15 : goal.returns-then-place-gt15
returns-then-place-gt15 c = search answer_state

pub returns-in_err-path_answer : goal.returns-in_err-path_answer
returns-in_err-path_answer c = let p = err_from_is_err_and c.from_residual.result c.from_residual.ensures.1 in rw (p.1, p.2) (answer_path _ _ _ _ _ _ _ (omega arith) c.path_answer.result c.path_answer.ensures _ cc)

pub returns-then-payload-full : goal.returns-then-payload-full
returns-then-payload-full c = search (rules, answer_payload)

pub returns-then-container-shape : goal.returns-then-container-shape
returns-then-container-shape c = search (rules, answer_container) fits 20000

pub returns-then-violations-gt8 : goal.returns-then-violations-gt8
returns-then-violations-gt8 c = search (rules, answer_violations) fits 20000

pub returns : goal.returns
returns c = search (rules, answer_done) fits 20000
