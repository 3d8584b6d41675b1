-- The monitor: from any state, 63 containers of one source settle it, with a label that fits the expected one and the expected trace. Assumes nothing.
use mathlib.Core.Path.{◌≡◌, refl, sym, ◌∙◌}
use mathlib.Core.Bool.{true, false, true≢false}
use mathlib.Core.List.{List, [], ◌∷◌}
use Prim.Native.Nat.{ℕ, ◌+◌, ◌%◌, ◌<◌, ◌≤◌}
use native.Mathlib.Omega.{arith}
use lib.Bits.{xor_self}
use lib.Dec.{eqb}
use lib.ListN.{length}
use borrow.Author.Tests.{eq-eqb, lt-ltb, ne_eqb}
use Rattle.laws.proofs.Tests.{by_test, or_false}
use Rattle.settings.specs.Settings.{label_refused, trace_faults}
use Rattle.settings.proofs.Passes.{Character, by_characters}
use Rattle.trace_message.specs.Message.{top_bits_clear}
use Rattle.trace_message.proofs.Alike.{same_alike}
use Rattle.overhead.specs.Violations.{violated_of, kept_of}
use Rattle.overhead.specs.Labels.{fits}
use Rattle.trace_monitor.specs.Trace.{blank_trace}
use Rattle.monitor.specs.declared.Overhead.{Overhead}
use Rattle.settings.specs.declared.Settings.{Settings}
use Rattle.monitor.specs.declared.Monitor.{Monitor}
use Rattle.monitor.specs.Monitoring.{forgot, blank_of, watch_step, monitor_step}
use Rattle.unit_end.specs.Actions.{defects_of}
use Rattle.unit_end.specs.Settled.{none_stands, label_expected, trace_expected, settled_of}
use Rattle.pointer_rules.specs.Rules.{restarts}
use Rattle.pointer_rules.specs.declared.Taken.{Taken}
use Rattle.receiving.specs.Receiving.{monitor_in}
use Rattle.settles_monitor.specs.Near.{enough, Setting, Like, Whole}
use Rattle.settles_monitor.proofs.Labels as labels
use Rattle.settles_monitor.proofs.Defects as defects
use Rattle.settles_monitor.proofs.Traces as traces

-- ---- settings

-- characters 20 to 7E have top bit 0
clear_more : (b : ℕ) (bs : List ℕ) → Character b → top_bits_clear bs ≡ true → top_bits_clear (b ∷ bs) ≡ true
unfolding top_bits_clear
clear_more b bs c h = rw (lt-ltb b 0x80 (omega (arith, c.most))) h

clear_of : (cs : List ℕ) → trace_faults cs ≡ [] → top_bits_clear cs ≡ true
unfolding top_bits_clear
clear_of cs h = by_characters (λ (l : List ℕ). top_bits_clear l ≡ true) refl clear_more cs h

-- settings that no number refuses, and a label that fits them
pub setting : (sent : ℕ) (e : Settings) → fits sent e.label ≡ true → label_refused e.label ≡ false → trace_faults e.trace ≡ [] → length e.trace ≡ 15
    → Setting sent e
unfolding label_refused
setting sent e f l t n =
    record {
      label = λ z. true≢false (sym (eq-eqb sent 0 z) ∙ (or_false (eqb sent 0) (eqb sent 0xff) (labels.fits_fine sent e.label f l)).0);
      fitting = f;
      size = n;
      low = clear_of e.trace t;
    }

-- ---- 15 places

-- every container leaves the message its places
pub whole_step : (m : Monitor) (c : Overhead) (e : Settings) → Whole m → Whole (monitor_step m c e)
unfolding watch_step monitor_step
whole_step m c e h = traces.trace_whole m.watch.trace c.j1 e.trace h

-- a clearing gives it them
pub whole_blank : (n : ℕ) → Whole (blank_of n)
unfolding blank_of blank_trace
whole_blank n = refl

-- a restart forgets the parity alone
pub whole_met : (t : Taken) (m : Monitor) → Whole m → Whole (monitor_in t m)
unfolding forgot
whole_met t m h = by_test Whole (restarts t) (λ _. h) (λ _. h)

-- ---- how near the monitor is

-- after k such containers in turn, the next with the byte at place i; the parity is not in it
pub record Near (sent : ℕ) (e : Settings) (i k : ℕ) (m : Monitor) : Type 0 where
  pub label : labels.Near sent k m.watch.label
  pub plm : 5 ≤ k → m.watch.plm ≡ false
  pub uneq : defects.Near k m.watch.uneq
  pub rdi : defects.Near k m.watch.rdi
  pub trace : traces.Near e.trace i k m.watch.trace

-- any state whose message has its 15 places, before the first
pub near_none : (sent : ℕ) (e : Settings) (i : ℕ) (m : Monitor) → Whole m → Near sent e i 0 m
near_none sent e i m h =
    record {
      label = labels.near_none sent m.watch.label;
      plm = λ p. absurd (omega arith);
      uneq = defects.near_none m.watch.uneq;
      rdi = defects.near_none m.watch.rdi;
      trace = traces.near_none e.trace i m.watch.trace h;
    }

-- one container
pub near_step : (sent : ℕ) (e : Settings) (i k : ℕ) (m : Monitor) (c : Overhead)
    → Setting sent e → i < 16 → Like sent e i c → Near sent e i k m → Near sent e ((i + 1) % 16) (k + 1) (monitor_step m c e)
unfolding watch_step monitor_step
near_step sent e i k m c s w l n =
    let label = labels.near_step sent k m.watch.label n.label in
    record {
      label = rw l.label label;
      plm = λ h. rw l.label (labels.holds_fits sent e.label _ s.fitting (labels.near_holds sent (k + 1) _ h label));
      uneq = rw (l.label, ne_eqb sent 0 s.label) (defects.near_step k m.watch.uneq n.uneq);
      rdi = rw l.remote (defects.near_step k m.watch.rdi n.rdi);
      trace = rw l.byte (traces.near_step e.trace s.size s.low k m.watch.trace i w n.trace);
    }

-- ---- settled

-- what settled asks of each part
pub record Calm (sent : ℕ) (e : Settings) (m : Monitor) : Type 0 where
  pub label : labels.Holds sent m.watch.label
  pub plm : m.watch.plm ≡ false
  pub uneq : m.watch.uneq.stands ≡ false
  pub rdi : m.watch.rdi.stands ≡ false
  pub trace : traces.Accepted e.trace m.watch.trace

-- "none of the four defects stands"
pub calm_free : (sent : ℕ) (e : Settings) (m : Monitor) → Calm sent e m → none_stands (defects_of m) ≡ true
unfolding defects_of none_stands
calm_free sent e m c = rw (c.uneq, c.trace.tim, c.plm, c.rdi)

-- and "accepted label and trace are the expected ones"
pub calm_settled : (sent : ℕ) (e : Settings) (m : Monitor) → fits sent e.label ≡ true → Calm sent e m → settled_of true m e ≡ true
unfolding settled_of label_expected trace_expected
calm_settled sent e m f c =
    rw (
      calm_free sent e m c,
      c.label.known,
      c.label.value,
      f,
      c.trace.known,
      c.trace.accepted,
      same_alike e.trace e.trace refl,
    )

-- ---- 63 or more

module _ (sent : ℕ) (e : Settings) (i k : ℕ) (m : Monitor) (w : i < 16) (h : enough ≤ k) (n : Near sent e i k m) where
  near_calm : Calm sent e m
  near_calm =
      record {
        label = labels.near_holds sent k m.watch.label (omega arith) n.label;
        plm = n.plm (omega arith);
        uneq = n.uneq.cleared (omega arith);
        rdi = n.rdi.cleared (omega arith);
        trace = traces.near_accepted e.trace i k m.watch.trace w h n.trace;
      }

  -- no defect
  pub near_free : none_stands (defects_of m) ≡ true
  near_free = calm_free sent e m near_calm

  -- THE MONITOR IS SETTLED.
  pub near_settled : fits sent e.label ≡ true → settled_of true m e ≡ true
  near_settled f = calm_settled sent e m f near_calm

-- ---- parity

-- a container leaves its own parity
pub parity_kept : (m : Monitor) (c : Overhead) (e : Settings) → (monitor_step m c e).parity ≡ kept_of c.parity
unfolding monitor_step
parity_kept m c e = refl

-- one whose B3 is the parity kept has no column violated
pub none_violated : (p b : ℕ) → b ≡ p → violated_of (kept_of p) b ≡ 0x00
unfolding violated_of kept_of
none_violated p b h = rw (h, xor_self p)
