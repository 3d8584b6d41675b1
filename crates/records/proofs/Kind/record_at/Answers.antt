-- `records::Kind::record_at` meets its contract: the part has the kind's length, and begins at k times it. Assumes nothing.
use Rattle.records.proofs.Fields.{record_part}
use Rattle.records.specs.Record.{plain}
use Rattle.records.proofs.Kind.record_at.Goals as goal

pub returns : goal.returns
returns c = search (record_part (plain c.args.self))
