-- Containers watched one after the other, as the proofs go through them. The statement of demand 3 does not cite this file.
use Rattle.std.specs.Prelude.{ℕ, List, [], ◌∷◌}
use Rattle.overhead.specs.Violations.{violated_of}
use Rattle.monitor.specs.Seeing.{seen_in}
use Rattle.monitor.specs.Monitoring.{monitor_step}
use Rattle.monitor.specs.declared.Monitor.{Monitor}
use Rattle.settings.specs.declared.Settings.{Settings}

-- the monitor after containers watched one after the other
unfoldable pub watched_all : ℕ → Settings → Monitor → List (List ℕ) → Monitor
watched_all columns e m [] = m
watched_all columns e m (c ∷ cs) = watched_all columns e (monitor_step m (seen_in columns c) e) cs

-- and the columns told of each, by the parity of the one before it
unfoldable pub violated_all : ℕ → Settings → Monitor → List (List ℕ) → List ℕ
violated_all columns e m [] = []
violated_all columns e m (c ∷ cs) = violated_of m.parity (seen_in columns c).b3 ∷ violated_all columns e (monitor_step m (seen_in columns c) e) cs
