-- `catalogue::check` meets its contract: what it answers is that of the kind that 01 has. Assumes nothing.
use mathlib.Core.Path.{◌≡◌, ap}
use Rattle.records.specs.Record.{old_kind, plain}
use Rattle.catalogue.proofs.Answers.{checks_as}
use Rattle.catalogue.proofs.check.Goals as goal

pub returns : goal.returns
returns c = let e : plain c.old.result ≡ old_kind = ap plain c.old.ensures in search (checks_as (plain c.old.result) old_kind)
