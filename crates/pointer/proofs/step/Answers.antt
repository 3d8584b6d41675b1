-- `pointer::step` meets its contract: run, taking, rows, state and wait, each from the one before. Assumes nothing.
use Rattle.pointer.proofs.Cases.{stepped}
use Rattle.pointer.proofs.step.Goals as goal

pub returns : goal.returns
returns c = search stepped fits 20000
