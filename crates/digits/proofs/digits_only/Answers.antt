-- `digits::digits_only` meets its contract: the test of each byte is the definition. Assumes nothing.
use mathlib.Core.Path.{◌∙◌}
use Rattle.std.proofs.Common.{rules, tests}
use Rattle.std.proofs.lemmas.Iterator.{YieldsList-from_slice}
use Rattle.std.proofs.lemmas.Iterator.Search.{all_from_yields_List}
use Rattle.digits.specs.Digits.{is_digit}
use Rattle.digits.proofs.Laws.{only_each}
use Rattle.digits.proofs.digits_only.Goals as goal

pub returns : goal.returns
unfolding is_digit
returns c =
    let s = c.args.s.now in
    all_from_yields_List is_digit _ _ _ c.all.ensures.ran (YieldsList-from_slice s cc) (λ x b q k. search (rules, tests)) ∙ only_each s
