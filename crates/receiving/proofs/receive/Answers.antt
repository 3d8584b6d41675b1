-- `receiving::receive` meets its contract: by the law of what a unit leaves. Assumes nothing.
use Rattle.receiving.proofs.Leaves.{line_is, seeable, unit_leaves}
use Rattle.shape.specs.Numbers.{numbers}
use Rattle.receiving.proofs.receive.Goals as goal

pub cut_unit-c-requires : goal.cut_unit-c-requires
cut_unit-c-requires c = search (line_is (numbers c.args.shape))

pub watch_both-requires : goal.watch_both-requires
watch_both-requires c = search (seeable (numbers c.args.shape))

-- the stages: the call, where it goes on, the monitor that its containers meet, the unit cut
pub returns : goal.returns
returns c =
    let a = c.args in
    let k = c.cut_unit-c in
    unit_leaves (numbers a.shape) a.t a.offset a.count a.unit.now a.held.now a.done.now c.requires c.goes_on-b.result c.goes_on-b.ensures
    k.result k.new.held k.new.done k.ensures a.m c.monitor_in-before.result a.e c.watch_both.result c.monitor_in-before.ensures
    c.watch_both.ensures
