-- `catalogue::check_as` meets its contract: the length, then the records, then the pairs. Assumes nothing.
use Rattle.records.specs.Record.{plain}
use Rattle.catalogue.proofs.Answers.{length_whole, length_most, check_length, check_fault, check_pairs}
use Rattle.catalogue.proofs.check_as.Goals as goal

pub returns-then-length_refused : goal.returns-then-length_refused
returns-then-length_refused c = search (check_length (plain c.args.kind))

pub invariant_of-file : goal.invariant_of-file
invariant_of-file c = record { whole = search (length_whole (plain c.args.kind)) }

pub first_repeat-v-requires : goal.first_repeat-v-requires
first_repeat-v-requires c = search (length_most (plain c.args.kind))

pub returns-in-Err : goal.returns-in-Err
returns-in-Err c = search (check_fault (plain c.args.kind))

pub returns-in-Ok : goal.returns-in-Ok
returns-in-Ok c = search (check_pairs (plain c.args.kind))
