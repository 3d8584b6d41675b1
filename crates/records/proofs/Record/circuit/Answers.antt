-- `records::Record::circuit` meets its contract: two bytes, high first, and no overflow. Assumes nothing.
use Rattle.records.proofs.Fields.{circuit_read}
use native.Mathlib.Omega.{arith}
use Rattle.records.proofs.Record.circuit.Goals as goal

pub overflow_mul-result : goal.overflow_mul-result
overflow_mul-result c = omega arith

pub overflow_add-result : goal.overflow_add-result
overflow_add-result c = omega arith

pub returns : goal.returns
returns c = search circuit_read
