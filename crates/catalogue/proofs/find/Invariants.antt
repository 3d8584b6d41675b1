-- `catalogue::find` meets its contract: no record before m has the number, so those from m on decide. Assumes nothing.
use mathlib.Core.Path.{◌≡◌}
use Prim.Native.Nat.{◌-◌}
use Rattle.records.specs.Record.{plain}
use Rattle.catalogue.specs.Catalogue.{having, first_in}
use Rattle.catalogue.proofs.find.Given as goal

abbrev pub invariant-loop-m : goal.invariant-loop-m
invariant-loop-m l = first_in (having (plain l.file.kind) l.file.bytes.now l.number l.m (l.file.count - l.m)) ≡ first_in (having (plain l.file.kind) l.file.bytes.now l.number 0 l.file.count)
