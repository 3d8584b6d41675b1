-- `trace_message::same` meets its contract: what is gathered up to i, with what is left, decides; of fifteen bytes two numbers do. Assumes nothing.
use mathlib.Core.Path.{refl}
use Rattle.std.proofs.Common.{rules}
use Rattle.trace_message.proofs.Alike.{alike_length, alike_fifteen}
use Rattle.trace_message.proofs.Laws.{alike_turn, alike_end}
use Rattle.trace_message.proofs.same.Goals as goal

pub returns-then-x-y : goal.returns-then-x-y
returns-then-x-y c = search alike_length

pub returns-then-x-eq15 : goal.returns-then-x-eq15
returns-then-x-eq15 c =
    alike_fifteen _ _ _ _ _ _ c.if-x-eq15.true (search rules) c.eight.ensures c.eight-then-x-eq15.ensures c.eight-then-x-eq15-2.ensures c.eight-then-x-eq15-3.ensures

pub loop-i-init : goal.loop-i-init
loop-i-init c = refl

pub loop-i-preserved : goal.loop-i-preserved
loop-i-preserved c = search alike_turn

pub returns : goal.returns
returns c = search alike_end
