-- `quotes::character` meets its contract. Assumes nothing.
use Rattle.quotes.proofs.Doubling.{double_quote, double_plain}
use Rattle.quotes.proofs.character.Goals as goal

pub returns-then-b-eq-QUOTE : goal.returns-then-b-eq-QUOTE
returns-then-b-eq-QUOTE c = search double_quote

pub returns : goal.returns
returns c = search (double_plain, c.if-b-eq-QUOTE.false)
