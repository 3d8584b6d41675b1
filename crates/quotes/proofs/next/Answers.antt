-- `quotes::next` meets its contract: a byte that is no quote, a quote doubled, and a quote alone. Assumes nothing.
use Rattle.quotes.proofs.Laws.{says_plain, says_quote, closes_quote}
use Rattle.quotes.proofs.next.Goals as goal

pub returns-then-b-ne-QUOTE : goal.returns-then-b-ne-QUOTE
returns-then-b-ne-QUOTE c = says_plain _ _ _ c.in_ok-b.ensures.cases.0 c.if-b-ne-QUOTE.true

pub returns-in_err-further : goal.returns-in_err-further
returns-in_err-further c = rw c.from_residual-in_err-further.ensures (closes_quote _ _ _ c.in_ok-b.ensures.cases.0 c.if-b-ne-QUOTE.false c.in_err-further.ensures.cases)

pub returns : goal.returns
returns c = says_quote _ _ _ c.in_ok-b.ensures.cases.0 c.if-b-ne-QUOTE.false _ c.in_ok-further.ensures.cases.0 c.in_ok-further.ensures.cases.1
