-- `overhead::defect_step` meets its contract: set by five with it, cleared by five without. Assumes nothing.
use Rattle.overhead.proofs.Steps.{defect_with, defect_without}
use Rattle.overhead.proofs.defect_step.Goals as goal

pub returns-then-bit : goal.returns-then-bit
returns-then-bit c = search defect_with

pub returns : goal.returns
returns c = search defect_without
