-- `container::hand` meets its contract: a call that is refused leaves the payload as it was, and any other has the lengths that `strip` asks for. Assumes nothing.
use Rattle.std.proofs.Common.{rules}
use Rattle.std.proofs.lemmas.Result.{err_from_is_err_and}
use Rattle.container.proofs.PayloadLaws.{hand_refused, strip_payload, strip_container, hand_ones, hand_payload}
use Rattle.shape.specs.Numbers.{numbers}
use Rattle.container.proofs.hand.Goals as goal

pub returns-in_err-payload_answer : goal.returns-in_err-payload_answer
returns-in_err-payload_answer c = let p = err_from_is_err_and c.from_residual.result c.from_residual.ensures.1 in rw (p.1, p.2) (hand_refused (numbers c.args.shape) c.args.container.now c.args.ais c.args.payload.now c.payload_answer.result c.payload_answer.ensures _ cc)

pub returns-then-ais : goal.returns-then-ais
returns-then-ais c = search (rules, hand_ones)

pub strip-requires : goal.strip-requires
strip-requires c = search (rules, strip_payload, strip_container)

pub returns : goal.returns
returns c = search (rules, hand_payload)
