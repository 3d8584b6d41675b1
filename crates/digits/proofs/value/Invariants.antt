-- `digits::value` meets its contract: what the digits before this one say, with the rest still to say, is the number. Assumes nothing.
use mathlib.Core.Bool.{true}
use Rattle.std.proofs.Common.{◌≡◌, ◌^◌, ◌<◌, drop}
use Rattle.digits.specs.Digits.{digits_only, value_from}
use Rattle.digits.proofs.value.Given as goal

abbrev pub invariant-loop-b : goal.invariant-loop-b
invariant-loop-b l = (l.v < 10 ^ l.b-index) × ((digits_only (drop l.b-index l.s) ≡ true) × (value_from l.v (drop l.b-index l.s) ≡ value_from 0 l.s))
