-- `text::hex_digit` meets its contract: the test is the definition's. Assumes nothing.
use Rattle.laws.proofs.Tests.{tests}
use Rattle.text.specs.Text.{hex_digit}
use Rattle.text.proofs.hex_digit.Goals as goal

pub returns-then-d-lt10 : goal.returns-then-d-lt10
unfolding hex_digit
returns-then-d-lt10 c = search tests

pub returns-else-d-lt10 : goal.returns-else-d-lt10
unfolding hex_digit
returns-else-d-lt10 c = search tests
