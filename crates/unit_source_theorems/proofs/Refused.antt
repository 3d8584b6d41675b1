-- When a call of the unit source is refused, and what it leaves: a refused call leaves everything as it was, and a call is done exactly where no row of the table applies. Assumes nothing.
use mathlib.Core.Path.{◌≡◌, refl, sym, ◌∙◌}
use mathlib.Core.List.{List}
use Prim.Native.Nat.{ℕ}
use lib.ListN.{length}
use Rattle.refusals.specs.Refusals.{answer_of}
use Rattle.refusals.specs.declared.Refusal.{Refusal}
use Rattle.std.specs.Prelude.{Result, Ok, Err, ⊤}
use Rattle.refusals.proofs.Wrong.{outcome_answer}
use Rattle.shape.specs.Shape.{Shape}
use Rattle.shape.specs.declared.Adjustment.{Adjustment}
use Rattle.unit_source.specs.Source.{MadeOutcome, make_faults, unit_source}
use Rattle.unit_source.specs.declared.State.{State}
use Rattle.unit_source.proofs.Answers.{Makable, makable, not_refused, source_refused}

module _ (s : Shape) (state : State) (a : Adjustment) (current next before : List ℕ) where
  -- the answer is the first of all that is wrong
  pub unit_answer : (unit_source s state a current next before).made.answer ≡ answer_of (make_faults s state a (length current) (length next) (length before))
  unfolding unit_source
  unit_answer = outcome_answer (λ (o : MadeOutcome). o.made.answer) (make_faults s state a (length current) (length next) (length before)) _ _ refl (λ x. refl)

  -- "A refusal returns its number and the old state. Nothing lent is written"; and none ended
  pub record Kept (o : MadeOutcome) : Type 0 where
    pub ended_none : o.made.ended ≡ 0
    pub state_is : o.made.state ≡ state
    pub unit_is : o.unit ≡ before

  pub unit_kept : ((unit_source s state a current next before).made.answer ≡ Ok tt → ⊥) → Kept (unit_source s state a current next before)
  unit_kept h = go (unit_source s state a current next before).made.answer refl
    where
      go : (r : Result ⊤ Refusal) → (unit_source s state a current next before).made.answer ≡ r → Kept (unit_source s state a current next before)
      go (Ok tt) e = absurd (h e)
      go (Err x) e = rw (source_refused s state a current next before x (sym unit_answer ∙ e)) (record { ended_none = refl; state_is = refl; unit_is = refl })

  -- it is done exactly where no row applies
  pub unit_makable : (unit_source s state a current next before).made.answer ≡ Ok tt → Makable s state a (length current) (length next) (length before)
  unit_makable e = makable s state a (length current) (length next) (length before) (sym unit_answer ∙ e)

  pub makable_unit : Makable s state a (length current) (length next) (length before) → (unit_source s state a current next before).made.answer ≡ Ok tt
  makable_unit m = unit_answer ∙ not_refused s state a (length current) (length next) (length before) m
