-- `listing::list` meets its contract: the buffer has room for a good catalogue of 512 records, and for a refusal. Assumes nothing.
use mathlib.Core.Path.{◌≡◌, ap}
use Rattle.records.specs.Record.{old_kind, plain}
use Rattle.listing.proofs.Answers.{good_records, good_room, good_listed, refused_listed}
use Rattle.listing.proofs.list.Goals as goal

pub invariant_of-file : goal.invariant_of-file
invariant_of-file c =
    let e : plain c.old.result ≡ old_kind = ap plain c.old.ensures in
    record { whole = good_records c.args.s.now c.check.result c.check.ensures c.in-Ok.count c.in-Ok.is (plain c.old.result) e }

pub good-requires : goal.good-requires
good-requires c = search good_room

pub returns-in-Ok : goal.returns-in-Ok
returns-in-Ok c =
    let e : plain c.old.result ≡ old_kind = ap plain c.old.ensures in
    search good_listed

pub returns-in-Err : goal.returns-in-Err
returns-in-Err c = search refused_listed
