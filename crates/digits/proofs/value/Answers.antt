-- `digits::value` meets its contract: what the digits before this one say, with the rest still to say, is the number. Assumes nothing.
use native.Mathlib.Omega.{arith}
use Rattle.std.proofs.Common.{◌<◌}
use Rattle.digits.proofs.Laws.{digit_range, value_digit, value_rest, value_turn, value_end, value_grows, value_less}
use Rattle.digits.proofs.value.Goals as goal

pub overflow_sub-b : goal.overflow_sub-b
overflow_sub-b c = omega (arith, digit_range _ (value_digit c.args.s.now c.loop-b.b-index c.loop-b-test.true c.loop-b.invariant.1.0))

pub loop-b-preserved : goal.loop-b-preserved
loop-b-preserved c =
    let h = digit_range _ (value_digit c.args.s.now c.loop-b.b-index c.loop-b-test.true c.loop-b.invariant.1.0) in
    let d : c.from.result < 10 = omega arith in
    (search value_grows, (search value_rest, search value_turn))

pub returns : goal.returns
returns c = (search value_end, search value_less)
