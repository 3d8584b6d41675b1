-- `trace_message::same` meets its contract: what is gathered up to i, with what is left, decides. Assumes nothing.
use Rattle.std.proofs.Common.{◌≡◌, ◌&&◌, drop}
use Rattle.trace_message.specs.Message.{alike}
use Rattle.trace_message.proofs.same.Given as goal

abbrev pub invariant-loop-i : goal.invariant-loop-i
invariant-loop-i l = (l.all && alike (drop l.i l.x) (drop l.i l.y)) ≡ alike l.x l.y
