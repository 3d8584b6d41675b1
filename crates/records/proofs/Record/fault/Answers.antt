-- `records::Record::fault` meets its contract: the first test that says so decides, in the order of `record_faults`. Assumes nothing.
use Rattle.records.proofs.Ways.{fault_mark, fault_circuit, fault_label, fault_trace, fault_flags, fault_none}
use Rattle.records.proofs.Record.fault.Goals as goal

pub returns-then-not-is_marked : goal.returns-then-not-is_marked
returns-then-not-is_marked c = search fault_mark

pub returns-then-circuit_refused : goal.returns-then-circuit_refused
returns-then-circuit_refused c = search fault_circuit

pub returns-then-label_refused : goal.returns-then-label_refused
returns-then-label_refused c = search fault_label fits 20000

pub returns-in-Err : goal.returns-in-Err
returns-in-Err c = search fault_trace fits 20000

pub returns-then-flags-gt15 : goal.returns-then-flags-gt15
returns-then-flags-gt15 c = search fault_flags fits 20000

pub returns : goal.returns
returns c = search fault_none fits 20000
