-- `exporting::export` meets its contract: the buffer has room for a good catalogue of 512 records. Assumes nothing.
use Rattle.std.proofs.lemmas.Result.{err_from_is_err_and}
use mathlib.Core.Path.{◌≡◌, ap}
use Rattle.records.specs.Record.{old_kind, plain}
use Rattle.exporting.proofs.Answers.{good_records, good_room, good_exported, refused_exported}
use Rattle.exporting.proofs.export.Goals as goal

pub returns-in_err-count : goal.returns-in_err-count
returns-in_err-count c =
    let p = err_from_is_err_and c.from_residual.result c.from_residual.ensures.1 in
    rw (p.1, p.2) (search (refused_exported, c.in_err-count.was))

pub text_of-requires : goal.text_of-requires
text_of-requires c =
    let e : plain c.old.result ≡ old_kind = ap plain c.old.ensures in
    search (good_room, c.in_ok-count.was)

pub invariant_of-file : goal.invariant_of-file
invariant_of-file c =
    let e : plain c.old.result ≡ old_kind = ap plain c.old.ensures in
    record { whole = good_records c.args.s.now c.args.out.now c.check.result c.check.ensures c.in_ok-count.count (search c.in_ok-count.was) (plain c.old.result) e }

pub returns : goal.returns
returns c =
    let e : plain c.old.result ≡ old_kind = ap plain c.old.ensures in
    search (good_exported, c.in_ok-count.was)
