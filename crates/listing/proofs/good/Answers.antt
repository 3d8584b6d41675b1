-- `listing::good` meets its contract: the heading, and then the lines. Assumes nothing.
use Rattle.listing.proofs.Answers.{lines_room, good_written}
use Rattle.listing.proofs.good.Goals as goal

pub lines-requires : goal.lines-requires
lines-requires c = search lines_room

pub returns : goal.returns
returns c = search good_written
