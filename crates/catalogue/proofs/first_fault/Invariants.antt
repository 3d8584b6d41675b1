-- `catalogue::first_fault` meets its contract: nothing is wrong with the records before k, so those from k on decide. Assumes nothing.
use mathlib.Core.Path.{◌≡◌}
use Prim.Native.Nat.{◌-◌}
use Rattle.records.specs.Faults.{first_fault}
use Rattle.records.specs.Record.{plain}
use Rattle.catalogue.specs.Catalogue.{faults_from}
use Rattle.catalogue.proofs.first_fault.Given as goal

abbrev pub invariant-loop-k : goal.invariant-loop-k
invariant-loop-k l = first_fault (faults_from (plain l.file.kind) l.file.bytes.now l.k (l.file.count - l.k)) ≡ first_fault (faults_from (plain l.file.kind) l.file.bytes.now 0 l.file.count)
