-- `parity::four` meets its contract: what is gathered, with the parity of what is left of the four parts, is the parity of all. Assumes nothing.
use Rattle.std.proofs.Common.{◌≡◌, ◌++◌}
use lib.Bits.{bit_xor}
use Rattle.parity.specs.Parity.{parity_of}
use Rattle.parity.proofs.Laws.{four_left}
use Rattle.parity.proofs.four.Given as goal

abbrev pub invariant-loop-k : goal.invariant-loop-k
invariant-loop-k l = bit_xor l.sum (four_left l.k l.a l.b l.c l.d) ≡ parity_of ((l.a ++ l.b) ++ (l.c ++ l.d))
