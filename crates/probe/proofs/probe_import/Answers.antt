-- `probe::probe_import` meets its contract: what the import answers and leaves. Assumes nothing.
use Rattle.probe.proofs.Packed.{import_packed, import_left}
use Rattle.probe.proofs.probe_import.Goals as goal

pub returns : goal.returns
returns c = (search import_packed, search import_left)
