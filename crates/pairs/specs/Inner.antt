-- What the function that compares the pairs answers. No rule stands here, and no promise of the catalogue's calls cites it.
use Rattle.records.specs.Faults.{first_fault}
use Rattle.pairs.specs.Pairs.{Visit}
use Rattle.pairs.specs.declared.Visited.{Visited}

-- what a visit comes to, as an answer
unfoldable pub visited_of : Visit → Visited
visited_of v = record { repeat = first_fault v.repeats; pairs = v.compared }
