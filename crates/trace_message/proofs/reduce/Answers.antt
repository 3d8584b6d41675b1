-- `trace_message::reduce` meets its contract. Assumes nothing.
use mathlib.Core.Path.{refl}
use Rattle.trace_message.specs.InnerRegister.{reduced}
use Rattle.trace_message.proofs.reduce.Goals as goal

pub returns : goal.returns
unfolding reduced
returns c = refl
