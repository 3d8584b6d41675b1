-- `record_line::characters` meets its contract: each quote doubled, or as they stand. Assumes nothing.
use Rattle.record_line.proofs.Writing.{doubled_room, doubled_within, plain_room, plain_within}
use Rattle.record_line.proofs.characters.Goals as goal

pub double-requires : goal.double-requires
double-requires c = search doubled_room

pub returns-then-form : goal.returns-then-form
returns-then-form c = search doubled_within

pub bytes-requires : goal.bytes-requires
bytes-requires c = search plain_room

pub returns : goal.returns
returns c = search plain_within
