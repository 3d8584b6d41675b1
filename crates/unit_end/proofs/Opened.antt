-- What is told at a unit's end, opened: `unfolding opened` where it is to be computed. Assumes nothing.
use Prim.{Unit, tt}
use Rattle.unit_end.specs.Terms.{has, or_any, and_all, and_none}
use Rattle.unit_end.specs.Actions.{defects_of, actions_of, causes_of}
use Rattle.unit_end.specs.Settled.{none_stands, label_expected, trace_expected, settled_of, total_of}

unfoldable pub opened : Unit {0}
unfolding has or_any and_all and_none defects_of actions_of causes_of none_stands label_expected trace_expected settled_of total_of
opened = tt
