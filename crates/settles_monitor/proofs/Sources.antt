-- What a container source sends, as the monitor sees it: the containers that settle it, each with the parity of the one before. Assumes nothing.
use mathlib.Core.Path.{◌≡◌, sym}
use mathlib.Core.Bool.{false}
use Prim.Native.Nat.{ℕ, ◌+◌, ◌*◌, ◌/◌, ◌%◌}
use native.Mathlib.Omega.{arith}
use borrow.Author.Tests.{ne_eqb}
use Rattle.std.specs.Prelude.{Ok}
use Rattle.shape.specs.Shape.{Shape, Fit}
use Rattle.container_source.specs.Overhead.{j1_of, g1_of, overhead_of}
use Rattle.container_source.specs.declared.State.{State}
use Rattle.container_source_theorems.specs.Run.{ContainerSourceCall, container_source_called}
use Rattle.container_source_theorems.proofs.Sequence.{overhead_sent, next_parity}
use Rattle.overhead.specs.Defects.{remote_of}
use Rattle.settings.specs.declared.Settings.{Settings}
use Rattle.monitor.specs.Seeing.{seen_in}
use Rattle.settles_monitor.specs.Near.{Like}

-- "the rest sent 0": with no remote defect, G1 has none
no_remote : (violations : ℕ) → remote_of (g1_of violations false) ≡ false
unfolding remote_of g1_of
no_remote v = ne_eqb ((v * 16 + 0) / 8 % 2) 1 (λ e. absurd (omega arith))

-- one call that is done, of a shape that fits
module _ (s : Shape) (f : Fit s) (state : State) (c : ContainerSourceCall) (done : (container_source_called s state c).sent.answer ≡ Ok tt) where
  -- with one label, the trace expected and no remote defect
  pub sent_like :
      (sent : ℕ) (e : Settings) → c.given.label ≡ sent → c.trace ≡ e.trace → c.given.remote ≡ false
      → Like sent e state.place (seen_in s.columns (container_source_called s state c).container)
  unfolding seen_in overhead_of j1_of
  sent_like sent e l t r =
      rw (overhead_sent s state c done f)
      (record { label = l; remote = rw r (no_remote c.given.violations); byte = rw t })

  -- B3 is the parity that the state has kept
  pub sent_b3 : (seen_in s.columns (container_source_called s state c).container).b3 ≡ state.parity
  unfolding seen_in overhead_of
  sent_b3 = rw (overhead_sent s state c done f)

  -- and the parity of the container is the one that it keeps
  pub sent_parity : (seen_in s.columns (container_source_called s state c).container).parity ≡ (container_source_called s state c).sent.state.parity
  unfolding seen_in
  sent_parity = sym (next_parity s state c done)
