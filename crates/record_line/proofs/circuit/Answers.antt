-- `record_line::circuit` meets its contract: two bytes make at most five digits. Assumes nothing.
use Rattle.record_line.proofs.Writing.{circuit_short}
use Rattle.record_line.proofs.circuit.Goals as goal

pub returns : goal.returns
returns c = circuit_short _ _ _ c.from.ensures c.circuit.ensures c.circuit.type_inv
