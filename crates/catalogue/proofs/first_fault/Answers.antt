-- `catalogue::first_fault` meets its contract: nothing is wrong with the records before k, so those from k on decide. Assumes nothing.
use Rattle.catalogue.proofs.Scan.{faults_start, fault_hit, fault_turn, fault_end}
use Rattle.std.proofs.lemmas.Result.{err_from_is_err_and}
use Rattle.catalogue.proofs.first_fault.Goals as goal

pub loop-k-init : goal.loop-k-init
loop-k-init c = search faults_start

pub returns-in_err-fault : goal.returns-in_err-fault
returns-in_err-fault c =
    let p = err_from_is_err_and c.from_residual.result c.from_residual.ensures.1 in
    rw (p.1, p.2) (search (fault_hit, c.in_err-fault.was))

pub loop-k-preserved : goal.loop-k-preserved
loop-k-preserved c = search (fault_turn, c.in_ok-fault.was)

pub returns : goal.returns
returns c = search fault_end
