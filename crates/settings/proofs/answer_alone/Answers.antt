-- `settings::answer_alone` meets its contract: fifteen characters are answered as in every call, and others by the label first. Assumes nothing.
use Rattle.settings.proofs.Refuses.{alone_answered, alone_label, alone_length}
use Rattle.settings.proofs.answer_alone.Goals as goal

pub returns-then-characters-eq15 : goal.returns-then-characters-eq15
returns-then-characters-eq15 c = search alone_answered

pub returns-then-no_label : goal.returns-then-no_label
returns-then-no_label c = search alone_label

pub returns : goal.returns
returns c = search alone_length
