-- `quotes::double` meets its contract: the characters before this one are written. Assumes nothing.
use Rattle.std.proofs.Common.{take}
use Rattle.text.specs.InnerWriting.{Wrote}
use Rattle.quotes.specs.Quotes.{doubled}
use Rattle.quotes.proofs.double.Given as goal

abbrev pub invariant-loop-b : goal.invariant-loop-b
invariant-loop-b l = Wrote (doubled (take l.b-index l.s)) l.initial.w l.w
