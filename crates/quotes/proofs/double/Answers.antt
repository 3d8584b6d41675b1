-- `quotes::double` meets its contract: the characters before this one are written. Assumes nothing.
use Rattle.quotes.proofs.Doubling.{double_start, double_room, double_turn, double_end}
use Rattle.quotes.proofs.double.Goals as goal

pub loop-b-init : goal.loop-b-init
loop-b-init c = search double_start

pub character-requires : goal.character-requires
character-requires c = search double_room

pub loop-b-preserved : goal.loop-b-preserved
loop-b-preserved c = search double_turn

pub returns : goal.returns
returns c = search double_end
