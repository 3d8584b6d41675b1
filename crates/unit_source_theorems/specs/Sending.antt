-- A unit source called again and again: it is given its containers in order, the next ones after as many as it says ended, and the buffer of one unit is lent again for the next.
use Rattle.std.specs.Prelude.{ℕ, ◌+◌, List}
use Rattle.shape.specs.Shape.{Shape}
use Rattle.shape.specs.declared.Adjustment.{Adjustment}
use Rattle.unit_source.specs.Source.{MadeOutcome, unit_source}
use Rattle.unit_source.specs.declared.State.{State}

-- a source between two calls: its state, the number of its current container, and what stands in the lent unit
pub record Sending : Type 0 where
  pub state : State
  pub number : ℕ
  pub unit : List ℕ

module _ (s : Shape) (box : ℕ → List ℕ) where
  -- with the current container and the next
  abbrev pub unit_source_called : Sending → Adjustment → MadeOutcome
  unit_source_called x a = unit_source s x.state a (box x.number) (box (x.number + 1)) x.unit

  -- as many containers further as it says ended
  unfoldable pub sending_after : Sending → Adjustment → Sending
  sending_after x a =
      let o = unit_source_called x a in
      record { state = o.made.state; number = x.number + o.made.ended; unit = o.unit }
