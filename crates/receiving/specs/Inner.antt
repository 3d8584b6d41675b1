-- What the code asks of a unit before it takes it in, and what it promises of one that ends normal. No rule of 01 stands here, and no promise of the sink cites this file.
use Rattle.std.specs.Prelude.{◌≡◌, ℕ, ◌+◌, ◌≤◌, true, List, length}
use Rattle.shape.specs.Shape.{Shape, Fit, unit_length}
use Rattle.pointer_rules.specs.declared.Taken.{Taken}
use Rattle.cut.specs.Inner.{Line, Sizes}
use Rattle.cut.specs.declared.Cut.{Cut}
use Rattle.monitor.specs.declared.Monitor.{Monitor}
use Rattle.settings.specs.declared.Settings.{Settings}
use Rattle.receiving.specs.declared.AfterUnit.{AfterUnit}
use Rattle.receiving.specs.Receiving.{begin_in, UnitOutcome, received_normal}

abbrev pub NormalOutcomeIs : Shape → Taken → ℕ → ℕ → Monitor → Settings → List ℕ → List ℕ → List ℕ → AfterUnit → List ℕ → List ℕ → Type 0
NormalOutcomeIs s t offset count m e unit held done r held' done' =
    ◌≡◌ {A = UnitOutcome} (record { after = r; held = held'; done = done' }) (received_normal s t offset count m e unit held done)

pub record Inside (s : Shape) (c : Cut) (unit : List ℕ) : Type 0 where
  pub fit : Fit s
  pub within : c.inside ≡ true → c.next + s.size ≤ length unit
  pub low : length unit ≡ unit_length s

pub record Seeable (s : Shape) (c : Cut) (unit done : List ℕ) : Type 0 where
  pub part : Inside s c unit
  pub done_is : length done ≡ s.size

pub record Receivable (s : Shape) (t : Taken) (offset count : ℕ) (unit held done : List ℕ) : Type 0 where
  pub low : offset ≤ s.top
  pub line : Line s (begin_in s t offset count).kept (begin_in s t offset count).from
  pub sizes : Sizes s unit held done
