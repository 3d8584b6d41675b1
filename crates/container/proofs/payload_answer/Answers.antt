-- `container::payload_answer` meets its contract: the first test that says so decides, in the order of `payload_faults`. Assumes nothing.
use Rattle.container.proofs.PayloadLaws.{answer_container, answer_payload, answer_done}
use Rattle.container.proofs.payload_answer.Goals as goal

pub returns-then-container-shape : goal.returns-then-container-shape
returns-then-container-shape c = search answer_container

pub returns-then-payload-full : goal.returns-then-payload-full
returns-then-payload-full c = search answer_payload

pub returns : goal.returns
returns c = search answer_done
