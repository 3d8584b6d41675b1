-- `probe_sink::kind` meets its contract: an answer for each case. Assumes nothing.
use Rattle.probe_sink.specs.Probe.{state_kind}
use Rattle.laws.proofs.Tests.{tests}
use Rattle.probe_sink.proofs.kind.Goals as goal

pub returns-in-Normal : goal.returns-in-Normal
unfolding state_kind
returns-in-Normal c = search tests

pub returns-in-Alarm : goal.returns-in-Alarm
unfolding state_kind
returns-in-Alarm c = search tests

pub returns-in-Lost : goal.returns-in-Lost
unfolding state_kind
returns-in-Lost c = search tests
