-- What a unit leaves, with all that it rests on, opened: `unfolding opened` where it is to be computed. Assumes nothing.
use Prim.{Unit, tt}
use Rattle.cut.proofs.Opened as cutting
use Rattle.monitor.proofs.Opened as monitor
use Rattle.pointer_rules.proofs.Opened as rules
use Rattle.receiving.specs.Receiving.{from_in, begin_in, watched, ended_in, silence, both_seen, received_normal}

unfoldable pub opened : Unit {0}
unfolding rules.opened cutting.opened monitor.opened from_in begin_in watched ended_in silence both_seen received_normal
opened = tt
