-- A clearing leaves each count in its range, and so does one more container. Of the monitor before only the message run is asked: every other count is put anew, or stops
-- at the end of its range, whatever it was. Assumes nothing.
use mathlib.Core.Path.{◌≡◌}
use mathlib.Core.Bool.{Bool, true, ◌&&◌}
use mathlib.Core.List.{List}
use Prim.Native.Nat.{ℕ, ◌≤◌}
use native.Mathlib.Omega.{arith}
use lib.Dec.{eqb, ltb, leb}
use borrow.Author.Tests.{le-leb, leb-true, ltb-true, eqb-true}
use Rattle.laws.proofs.Tests.{by_test, and_left, and_right}
use Rattle.counts.specs.Counts.{more, run_on}
use Rattle.trace_message.specs.Message.{alike}
use Rattle.overhead.specs.declared.Accepted.{Accepted}
use Rattle.overhead.specs.declared.Defect.{Defect}
use Rattle.overhead.specs.Accepted.{accepted_of}
use Rattle.overhead.specs.Defects.{defect_of, remote_of}
use Rattle.trace_monitor.specs.declared.Gathered.{Gathered}
use Rattle.trace_monitor.specs.declared.Trace.{Trace}
use Rattle.trace_monitor.specs.Trace.{gathered_of, ends_good, spoils, with_good, without_good, trace_of, blank_trace}
use Rattle.monitor.specs.declared.Overhead.{Overhead}
use Rattle.settings.specs.declared.Settings.{Settings}
use Rattle.monitor.specs.declared.Monitor.{Monitor}
use Rattle.monitor.specs.Monitoring.{forgot, blank_of, watch_step, monitor_step, watch_in_range, monitor_in_range}

-- a run of equal ones stops at the end of its range
run_most : (same : Bool) (run most : ℕ) → 1 ≤ most → run_on same run most ≤ most
unfolding run_on
run_most same run most h = by_test (λ (r : ℕ). r ≤ most) same (λ _. omega arith) (λ _. h)

-- ---- label and defects, whatever they were

label_range : (a : Accepted) (c2 : ℕ) → (accepted_of a c2).run ≤ 5
unfolding accepted_of
label_range a c2 =
    let run = run_on (eqb c2 a.last) a.run 5 in
    let h : run ≤ 5 = run_most (eqb c2 a.last) a.run 5 (omega arith) in
    by_test (λ (r : Accepted). r.run ≤ 5) (leb 5 run) (λ _. h) (λ _. h)

with_range : (d : Defect) (bit : Bool) → (defect_of d bit).with ≤ 5
unfolding defect_of
with_range d bit = by_test (λ (r : Defect). r.with ≤ 5) bit (λ _. omega arith) (λ _. omega arith)

without_range : (d : Defect) (bit : Bool) → (defect_of d bit).without ≤ 5
unfolding defect_of
without_range d bit = by_test (λ (r : Defect). r.without ≤ 5) bit (λ _. omega arith) (λ _. omega arith)

-- ---- the trace

record Within (t : Trace) : Type 0 where
  place : t.gathered.place ≤ 15
  run : t.run ≤ 3
  without : t.without ≤ 48

place_range : (g : Gathered) (j1 : ℕ) → (gathered_of g j1).place ≤ 15
unfolding gathered_of
place_range g j1 =
    by_test (λ (r : Gathered). r.place ≤ 15) (leb 0x80 j1) (λ _. omega arith)
    (λ _. by_test (λ (r : Gathered). r.place ≤ 15) (eqb g.place 0) (λ h. omega (arith, eqb-true g.place 0 h))
    (λ _. by_test (λ (r : Gathered). r.place ≤ 15) (ltb g.place 15) (λ h. omega (arith, ltb-true g.place 15 h)) (λ _. omega arith)))

with_good_range : (t : Trace) (g : Gathered) (expected : List ℕ) → g.place ≤ 15 → Within (with_good t g expected)
unfolding with_good
with_good_range t g expected p =
    let run = run_on (alike g.chars t.last) t.run 3 in
    let h : run ≤ 3 = run_most (alike g.chars t.last) t.run 3 (omega arith) in
    by_test Within (leb 3 run) (λ _. record { place = p; run = h; without = omega arith }) (λ _. record { place = p; run = h; without = omega arith })

-- the message run alone may stay as it was
without_good_range : (t : Trace) (g : Gathered) (spoilt : Bool) → g.place ≤ 15 → t.run ≤ 3 → Within (without_good t g spoilt)
unfolding without_good
without_good_range t g spoilt p h =
    let w : more t.without 48 ≤ 48 = omega arith in
    by_test Within (leb 48 (more t.without 48)) (λ _. record { place = p; run = omega arith; without = w })
    (λ _. record { place = p; run = by_test (λ (n : ℕ). n ≤ 3) spoilt (λ _. omega arith) (λ _. h); without = w })

trace_range : (t : Trace) (j1 : ℕ) (expected : List ℕ) → t.run ≤ 3 → Within (trace_of t j1 expected)
unfolding trace_of
trace_range t j1 expected h =
    let g = gathered_of t.gathered j1 in
    let p : g.place ≤ 15 = place_range t.gathered j1 in
    by_test Within (ends_good t.gathered.place j1 g) (λ _. with_good_range t g expected p) (λ _. without_good_range t g (spoils t.gathered.place j1) p h)

-- ---- the monitor

-- what is asked of the monitor before
run_in : (m : Monitor) → monitor_in_range m ≡ true → m.watch.trace.run ≤ 3
unfolding watch_in_range
run_in m h =
    let w = m.watch in
    let a =
    leb w.label.run 5
    && leb w.uneq.with 5
    && leb w.uneq.without 5
    && leb w.rdi.with 5
    && leb w.rdi.without 5
    && leb w.trace.gathered.place 15 in
    let b = leb w.trace.run 3 in
    leb-true w.trace.run 3 (and_right a b (and_left (a && b) (leb w.trace.without 48) h))

pub step_in : (m : Monitor) (c : Overhead) (e : Settings) → m.watch.trace.run ≤ 3 → monitor_in_range (monitor_step m c e) ≡ true
unfolding watch_in_range watch_step monitor_step
step_in m c e h =
    let w = m.watch in
    let t = trace_range w.trace c.j1 e.trace h in
    rw (
      le-leb _ 5 (label_range w.label c.c2),
      le-leb _ 5 (with_range w.uneq (eqb c.c2 0)),
      le-leb _ 5 (without_range w.uneq (eqb c.c2 0)),
      le-leb _ 5 (with_range w.rdi (remote_of c.g1)),
      le-leb _ 5 (without_range w.rdi (remote_of c.g1)),
      le-leb _ 15 t.place,
      le-leb _ 3 t.run,
      le-leb _ 48 t.without,
    )

pub step_range : (m : Monitor) (c : Overhead) (e : Settings) → monitor_in_range m ≡ true → monitor_in_range (monitor_step m c e) ≡ true
step_range m c e h = step_in m c e (run_in m h)

pub blank_range : (n : ℕ) → n ≤ 48 → monitor_in_range (blank_of n) ≡ true
unfolding watch_in_range blank_of blank_trace
blank_range n h = le-leb n 48 h

-- the last parity has no range
pub forgot_range : (m : Monitor) → monitor_in_range m ≡ true → monitor_in_range (forgot m) ≡ true
unfolding forgot
forgot_range m h = h
