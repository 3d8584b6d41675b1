-- `trace_message::bytes` meets its contract: the bytes that are left, after the register so far, give what all give. Assumes nothing.
use Rattle.std.proofs.Common.{◌≡◌, ◌<◌, drop}
use Rattle.trace_message.specs.InnerRegister.{bytes_in}
use Rattle.trace_message.proofs.bytes.Given as goal

abbrev pub invariant-loop-b : goal.invariant-loop-b
invariant-loop-b l = (l.r < 128) × (bytes_in l.r (drop l.b-index l.s) ≡ bytes_in l.start l.s)
