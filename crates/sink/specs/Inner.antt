-- What the parts of a call are given, and what they leave, where the code goes through them one after the other. No rule of 01 stands here, and no promise cites this file.
use Rattle.std.specs.Prelude.{◌≡◌, ℕ, false, List, length}
use Rattle.settings.specs.declared.Settings.{Settings}
use Rattle.shape.specs.Shape.{Shape, Fit, unit_length}
use Rattle.pointer.specs.declared.AfterWord.{AfterWord}
use Rattle.receiving.specs.Receiving.{UnitOutcome}
use Rattle.receiving.specs.declared.AfterUnit.{AfterUnit}
use Rattle.sink.specs.declared.State.{State}
use Rattle.sink.specs.Sink.{sink_out_of_range, pointed, unit_outcome}

-- a call that nothing is wrong with, by its lengths
pub record Fed (s : Shape) (state : State) (unit held done : ℕ) : Type 0 where
  pub fine : sink_out_of_range s state ≡ false
  pub unit_is : unit ≡ unit_length s
  pub held_is : held ≡ s.size
  pub done_is : done ≡ s.size

-- one whose word was read
pub record Pointed (s : Shape) (state : State) (a : AfterWord) (unit held done : List ℕ) : Type 0 where
  pub fit : Fit s
  pub fed : Fed s state (length unit) (length held) (length done)
  pub after_is : a ≡ pointed s state.pointer unit

abbrev pub UnitOutcomeIs : Shape → State → AfterWord → Settings → List ℕ → List ℕ → List ℕ → AfterUnit → List ℕ → List ℕ → Type 0
UnitOutcomeIs s state a e unit held done r held' done' = ◌≡◌ {A = UnitOutcome} (record { after = r; held = held'; done = done' }) (unit_outcome s state a e unit held done)
