-- `settings::answer` meets its contract: that of label and trace. Assumes nothing.
use Rattle.settings.proofs.Refuses.{settings_answer_lem}
use Rattle.settings.proofs.answer.Goals as goal

pub returns : goal.returns
returns c = search settings_answer_lem
