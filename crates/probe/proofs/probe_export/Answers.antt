-- `probe::probe_export` meets its contract: what the export answers and leaves. Assumes nothing.
use borrow.Author.Rules.{rules}
use Rattle.probe.proofs.Packed.{export_packed}
use Rattle.probe.proofs.probe_export.Goals as goal

pub returns : goal.returns
returns c = (search export_packed, search rules)
