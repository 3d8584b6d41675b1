-- `catalogue::lookup` meets its contract: a good catalogue is searched, a refused one gives its refusal. Assumes nothing.
use Rattle.std.proofs.lemmas.Result.{err_from_is_err_and}
use mathlib.Core.Path.{◌≡◌, ap}
use Rattle.records.specs.Fits.{old_serves}
use Rattle.records.specs.Record.{old_kind, plain}
use Rattle.catalogue.proofs.Answers.{good_whole, lookup_good, lookup_refused}
use Rattle.catalogue.proofs.lookup.Goals as goal

pub returns-in_err-count : goal.returns-in_err-count
returns-in_err-count c =
    let p = err_from_is_err_and c.from_residual.result c.from_residual.ensures.1 in
    rw (p.1, p.2) (search (lookup_refused, c.in_err-count.was))

pub invariant_of-file : goal.invariant_of-file
invariant_of-file c =
    let e : plain c.old.result ≡ old_kind = ap plain c.old.ensures in
    record { whole = good_whole old_kind c.args.s.now c.args.number c.check.result c.check.ensures c.in_ok-count.count (search c.in_ok-count.was) (plain c.old.result) e old_serves }

pub returns : goal.returns
returns c =
    let e : plain c.old.result ≡ old_kind = ap plain c.old.ensures in
    search (lookup_good, c.in_ok-count.was)
