-- `probe_sink::show` meets its contract: the report, or what is told where none was. Assumes nothing.
use Rattle.probe_sink.proofs.Plains.{shown_done, shown_refused}
use Rattle.probe_sink.proofs.show.Goals as goal

pub returns-in-Ok : goal.returns-in-Ok
returns-in-Ok c = search shown_done

pub returns-in-Err : goal.returns-in-Err
returns-in-Err c = search shown_refused
