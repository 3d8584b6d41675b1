-- `unit_source::write` meets its contract: the header, and then the run behind it. Assumes nothing.
use Rattle.unit_source.proofs.Writes.{write_head, write_pour, write_unit}
use Rattle.shape.specs.Numbers.{numbers}
use Rattle.unit_source.proofs.write.Goals as goal

pub header-requires : goal.header-requires
header-requires c = search (write_head (numbers c.args.shape))

pub pour-requires : goal.pour-requires
pour-requires c = search write_pour fits 20000

pub returns : goal.returns
returns c = search write_unit fits 20000
