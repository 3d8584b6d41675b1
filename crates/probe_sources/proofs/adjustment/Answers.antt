-- `probe_sources::adjustment` meets its contract: each way by its test. Assumes nothing.
use Rattle.laws.proofs.Tests.{tests}
use Rattle.probe_sources.specs.Probe.{adjustment_by}
use Rattle.probe_sources.proofs.adjustment.Goals as goal

pub returns-then-asked-eq0 : goal.returns-then-asked-eq0
unfolding adjustment_by
returns-then-asked-eq0 c = search tests

pub returns-then-asked-eq1 : goal.returns-then-asked-eq1
unfolding adjustment_by
returns-then-asked-eq1 c = search tests

pub returns : goal.returns
unfolding adjustment_by
returns c = search tests
