-- The order in which a call of the sink is refused, as one table, computed by the check from the definitions. Assumes nothing.
use mathlib.Core.Path.{◌≡◌, refl}
use mathlib.Core.List.{List, [], ◌∷◌, ◌++◌, map}
use Prim.Native.Nat.{ℕ}
use lib.ListN.{replicate}
use Rattle.settings.specs.Flags.{flags_of}
use Rattle.settings.specs.declared.Settings.{Settings}
use Rattle.refusals.specs.Refusals.{answer_says, answer_of}
use Rattle.shape.specs.Shape.{au4}
use Rattle.pointer_rules.specs.Rules.{no_run}
use Rattle.pointer_state.specs.declared.State.TheVariants.{Normal}
use Rattle.pointer.specs.Machine as pointer
use Rattle.monitor.specs.Monitoring as monitor
use Rattle.sink.specs.Sink.{sink_faults}
use Rattle.sink.specs.declared.State.{State}
use Rattle.sink_theorems.proofs.Opened.{opened}

-- normal at an offset, with so many bytes held, and so many containers without a message
pub standing : ℕ → ℕ → ℕ → State
standing offset held without =
    record {
      pointer = record { state = Normal offset; rows = pointer.no_rows; run = no_run; wait = 3 };
      held = held;
      monitor = monitor.blank_of without;
      total = 0;
    }

-- "Sink: 8, 4, 5, 1, 3", with 20 and 21 "in the place of 5": each row has its own fault and all those after it in that order, the last none
pub record Row : Type 0 where
  pub state : State
  pub settings : Settings
  pub unit : ℕ
  pub held : ℕ
  pub done : ℕ

pub row : State → ℕ → List ℕ → ℕ → ℕ → ℕ → Row
row s l t u h d = record { state = s; settings = record { label = l; trace = t; flags = flags_of 0 }; unit = u; held = h; done = d }

pub rows : List Row
rows =
    row (standing 783 0 48) 0x00 (replicate 15 0x1f) 2357 2348 2348
    ∷ row (standing 782 0 48) 0x00 (replicate 15 0x1f) 2357 2348 2348
    ∷ row (standing 782 3 49) 0x00 (replicate 15 0x1f) 2357 2348 2348
    ∷ row (standing 782 3 48) 0x00 (replicate 15 0x1f) 2357 2348 2348
    ∷ row (standing 782 3 48) 0xff (replicate 15 0x1f) 2357 2348 2348
    ∷ row (standing 782 3 48) 0x01 (replicate 15 0x1f) 2357 2348 2348
    ∷ row (standing 782 3 48) 0x01 (replicate 15 0x7f) 2357 2348 2348
    ∷ row (standing 782 3 48) 0x01 (replicate 15 0x20) 2357 2348 2348
    ∷ row (standing 782 3 48) 0x01 (replicate 14 0x20 ++ (0x21 ∷ [])) 2357 2348 2348
    ∷ row (standing 782 3 48) 0x01 (replicate 15 0x7e) 2359 2348 2348
    ∷ row (standing 782 3 48) 0x01 (replicate 15 0x7e) 2358 2348 2349
    ∷ row (standing 782 3 48) 0x01 (replicate 15 0x7e) 2358 2349 2350
    ∷ row (standing 782 3 48) 0x01 (replicate 15 0x7e) 2358 2349 2349
    ∷ []

pub answered : Row → List ℕ
answered r = answer_says (answer_of (sink_faults au4 r.state r.settings r.unit r.held r.done))

pub sink_order : map answered rows ≡
    (8 ∷ []) ∷ (8 ∷ []) ∷ (8 ∷ []) ∷ (4 ∷ []) ∷ (4 ∷ []) ∷ (5 ∷ 1 ∷ []) ∷ (20 ∷ 1 ∷ []) ∷ (21 ∷ []) ∷ (1 ∷ []) ∷ (1 ∷ []) ∷ (3 ∷ []) ∷ (3 ∷ []) ∷ (0 ∷ []) ∷ []
unfolding answer_says opened standing row rows answered
sink_order = refl
