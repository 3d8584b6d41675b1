-- `catalogue::Entry::of` meets its contract: the characters are a copy of the record's. Assumes nothing.
use Rattle.catalogue.proofs.Answers.{entry_made}
use Rattle.catalogue.proofs.Entry.of.Goals as goal

pub returns : goal.returns
returns c = search entry_made
