-- `pairs::first_repeat` meets its contract: no pair compared so far has one trace, so those still to come decide, and their number is added. Assumes nothing.
use Prim.Native.Nat.{◌+◌, ◌-◌, ◌*◌, ◌≤◌}
use mathlib.Core.List.{◌++◌}
use Rattle.records.specs.Record.{most_records, plain}
use Rattle.pairs.specs.Pairs.{pairs_with, pairs_from, visit}
use Rattle.pairs.proofs.Scan.{Left}
use Rattle.pairs.proofs.first_repeat.Given as goal

-- a later record has fewer than 512 before it: so the count is far from its type's end
abbrev pub invariant-loop-i : goal.invariant-loop-i
invariant-loop-i l = (l.pairs ≤ most_records * l.j + l.i) × Left (plain l.file.kind) l.file.bytes.now l.pairs (pairs_with l.j l.i (l.j - l.i) ++ pairs_from (l.j + 1) (l.file.count - (l.j + 1))) (visit (plain l.file.kind) l.file.bytes.now (pairs_from 0 l.file.count))

abbrev pub invariant-loop-j : goal.invariant-loop-j
invariant-loop-j l = (l.pairs ≤ most_records * l.j) × Left (plain l.file.kind) l.file.bytes.now l.pairs (pairs_from l.j (l.file.count - l.j)) (visit (plain l.file.kind) l.file.bytes.now (pairs_from 0 l.file.count))
