-- `probe_sink::pointer_state` meets its contract: each way by its test. Assumes nothing.
use Rattle.probe_sink.specs.Probe.{pointer_state}
use Rattle.laws.proofs.Tests.{tests}
use Rattle.probe_sink.proofs.pointer_state.Goals as goal

pub returns-then-kind-eq0 : goal.returns-then-kind-eq0
unfolding pointer_state
returns-then-kind-eq0 c = search tests

pub returns-then-kind-eq1 : goal.returns-then-kind-eq1
unfolding pointer_state
returns-then-kind-eq1 c = search tests

pub returns : goal.returns
unfolding pointer_state
returns c = search tests
