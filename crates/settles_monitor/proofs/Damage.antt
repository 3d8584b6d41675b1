-- One container with any bytes at all, after 63 of one source, and then such as before: the monitor is settled at it and ever after. Assumes nothing.
use mathlib.Core.Path.{◌≡◌}
use mathlib.Core.Bool.{true, false}
use Prim.Native.Nat.{ℕ, ◌+◌, ◌%◌, ◌<◌, ◌≤◌}
use native.Mathlib.Omega.{arith}
use lib.Dec.{eqb}
use borrow.Author.Tests.{ne_eqb}
use Rattle.overhead.specs.Labels.{fits}
use Rattle.overhead.specs.Defects.{remote_of}
use Rattle.monitor.specs.declared.Overhead.{Overhead}
use Rattle.settings.specs.declared.Settings.{Settings}
use Rattle.monitor.specs.declared.Monitor.{Monitor}
use Rattle.monitor.specs.Monitoring.{watch_step, monitor_step}
use Rattle.unit_end.specs.Actions.{defects_of}
use Rattle.unit_end.specs.Settled.{none_stands, settled_of}
use Rattle.settles_monitor.specs.Near.{enough, Setting, Like}
use Rattle.settles_monitor.proofs.Labels as labels
use Rattle.settles_monitor.proofs.Hits.{label_again, label_hit, defect_again, defect_hit}
use Rattle.settles_monitor.proofs.Strays as strays
use Rattle.settles_monitor.proofs.Settles.{Near, Calm, calm_free, calm_settled}

-- after the damage, the next container with the byte at place i; the parity is not in it
pub record Loose (sent : ℕ) (e : Settings) (i : ℕ) (m : Monitor) : Type 0 where
  pub label : labels.Holds sent m.watch.label
  pub plm : m.watch.plm ≡ false
  pub uneq : m.watch.uneq.stands ≡ false
  pub rdi : m.watch.rdi.stands ≡ false
  pub trace : strays.Loose e.trace i m.watch.trace

-- the damaged container
pub damaged : (sent : ℕ) (e : Settings) (i k : ℕ) (m : Monitor) (c : Overhead)
    → fits sent e.label ≡ true → i < 16 → enough ≤ k → Near sent e i k m → Loose sent e ((i + 1) % 16) (monitor_step m c e)
unfolding watch_step monitor_step
damaged sent e i k m c f w h n =
    let label = label_hit sent c.c2 k m.watch.label (omega arith) n.label in
    record {
      label = label;
      plm = labels.holds_fits sent e.label _ f label;
      uneq = defect_hit k m.watch.uneq (eqb c.c2 0) (omega arith) n.uneq;
      rdi = defect_hit k m.watch.rdi (remote_of c.g1) (omega arith) n.rdi;
      trace = strays.trace_hit e.trace i k m.watch.trace c.j1 w h n.trace;
    }

-- one such as before
pub loose_step : (sent : ℕ) (e : Settings) (i : ℕ) (m : Monitor) (c : Overhead)
    → Setting sent e → i < 16 → Like sent e i c → Loose sent e i m → Loose sent e ((i + 1) % 16) (monitor_step m c e)
unfolding watch_step monitor_step
loose_step sent e i m c s w l n =
    let label = label_again sent m.watch.label n.label in
    record {
      label = rw l.label label;
      plm = rw l.label (labels.holds_fits sent e.label _ s.fitting label);
      uneq = rw (l.label, ne_eqb sent 0 s.label) (defect_again m.watch.uneq n.uneq);
      rdi = rw l.remote (defect_again m.watch.rdi n.rdi);
      trace = rw l.byte (strays.loose_step e.trace s.size s.low m.watch.trace i w n.trace);
    }

-- ---- settled all the while

module _ (sent : ℕ) (e : Settings) (i : ℕ) (m : Monitor) (n : Loose sent e i m) where
  loose_calm : Calm sent e m
  loose_calm = record { label = n.label; plm = n.plm; uneq = n.uneq; rdi = n.rdi; trace = strays.loose_accepted e.trace i m.watch.trace n.trace }

  pub loose_free : none_stands (defects_of m) ≡ true
  loose_free = calm_free sent e m loose_calm

  pub loose_settled : fits sent e.label ≡ true → settled_of true m e ≡ true
  loose_settled f = calm_settled sent e m f loose_calm
