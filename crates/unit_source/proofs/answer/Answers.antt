-- `unit_source::answer` meets its contract: the first test that says so decides, in the order of `make_faults`. Assumes nothing.
use Rattle.unit_source.proofs.Answers.{wrong_state, wrong_container, wrong_unit, wrong_adjustment, nothing_wrong}
use Rattle.unit_source.proofs.answer.Goals as goal

pub returns-then-out_of_range : goal.returns-then-out_of_range
returns-then-out_of_range c = search wrong_state

pub returns-then-current-shape : goal.returns-then-current-shape
returns-then-current-shape c = search wrong_container

pub returns-then-unit-unit_length : goal.returns-then-unit-unit_length
returns-then-unit-unit_length c = search wrong_unit

pub returns-then-is_adjustment-s : goal.returns-then-is_adjustment-s
returns-then-is_adjustment-s c = search wrong_adjustment

pub returns : goal.returns
returns c = search nothing_wrong
