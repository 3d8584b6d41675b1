-- `records::File::record` meets its contract: the record lies within the file. Assumes nothing.
use Rattle.records.proofs.Fields.{record_within}
use Rattle.records.specs.Record.{plain}
use Rattle.records.proofs.File.record.Goals as goal

pub record_at-requires : goal.record_at-requires
record_at-requires c = search (record_within (plain c.args.self.kind))
