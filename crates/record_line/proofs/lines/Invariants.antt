-- `record_line::lines` meets its contract: after k turns the lines of the first k records are written. Assumes nothing.
use Prim.Native.Nat.{◌*◌}
use Rattle.records.specs.Record.{plain}
use Rattle.record_line.specs.RecordLine.{lines_from}
use Rattle.text.specs.InnerWriting.{WroteWithin}
use Rattle.record_line.specs.Inner.{line_most}
use Rattle.record_line.proofs.lines.Given as goal

abbrev pub invariant-loop-k : goal.invariant-loop-k
invariant-loop-k l = WroteWithin (line_most l.form * l.k) (lines_from l.form (plain l.file.kind) l.file.bytes.now 0 l.k) l.initial.w l.w
