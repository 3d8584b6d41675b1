-- `settings::all_spaces` meets its contract: all are spaces, or one is not. Assumes nothing.
use Rattle.std.proofs.Common.{rules, tests, ◌≡◌}
use Rattle.std.proofs.lemmas.Iterator.{cases_from_all, YieldsList-from_slice}
use Rattle.settings.proofs.Laws.{spaces_said}
use Rattle.settings.proofs.all_spaces.Goals as goal

pub returns : goal.returns
returns c =
    spaces_said c.args.characters.now c.all.result
    (cases_from_all _ _ _ (λ b. b ≡ 0x20) (λ b. b ≡ 0x20 → ⊥) c.all.ensures.ran (YieldsList-from_slice c.args.characters.now cc) (λ x q k. search (rules, tests)) (λ x q k. search (rules, tests)))
