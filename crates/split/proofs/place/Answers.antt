-- `split::place` meets its contract: the first place, or the length where there is none. Assumes nothing.
use lib.Dec.{eqb}
use Rattle.std.proofs.Common.{rules, tests}
use Rattle.std.proofs.lemmas.Iterator.{YieldsList-from_slice}
use Rattle.std.proofs.lemmas.Iterator.Search.{position_from_yields_List}
use Rattle.split.proofs.Laws.{place_is, place_within}
use Rattle.split.proofs.place.Goals as goal

pub returns : goal.returns
returns c =
    let s = c.args.s.now in
    let b = c.args.b in
    let found = position_from_yields_List (λ x. eqb x b) _ _ _ c.position.ensures.ran (YieldsList-from_slice s cc) (λ x r q k. search (rules, tests)) in
    (place_is s b _ _ found c.unwrap_or.ensures, place_within s b _ _ found c.unwrap_or.ensures)
