-- What is read of B3, C2 and G1, opened: `unfolding opened` where it is to be computed. Assumes nothing.
use Prim.{Unit, tt}
use Rattle.counts.specs.Counts.{run_on}
use Rattle.overhead.specs.Violations.{violated_of, violations_of, kept_of}
use Rattle.overhead.specs.Accepted.{accepted_of}
use Rattle.overhead.specs.Labels.{fits, plm_of}
use Rattle.overhead.specs.Defects.{defect_of, remote_of, returned_of}

unfoldable pub opened : Unit {0}
unfolding run_on violated_of violations_of kept_of accepted_of fits plm_of defect_of remote_of returned_of
opened = tt
