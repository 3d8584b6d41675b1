-- The monitor, of 01, "Defects, actions, causes": "per container, in order", violations (their columns, 02, ask 5), label and dUNEQ, dRDI, trace.
-- It keeps the last parity, which a restart forgets, and apart from it what is watched from container to container, which stays.
use Rattle.std.specs.Prelude.{ℕ, Bool, false, ◌&&◌, eqb, leb}
use Rattle.settings.specs.declared.Settings.{Settings}
use Rattle.overhead.specs.declared.Parity.{Parity}
use Rattle.overhead.specs.declared.Defect.{Defect}
use Rattle.overhead.specs.Violations.{violated_of, kept_of}
use Rattle.overhead.specs.Accepted.{accepted_of}
use Rattle.overhead.specs.Labels.{plm_of}
use Rattle.overhead.specs.Defects.{defect_of, remote_of, returned_of}
use Rattle.trace_monitor.specs.Trace.{trace_of, blank_trace}
use Rattle.monitor.specs.declared.Overhead.{Overhead}
use Rattle.monitor.specs.declared.Watch.{Watch}
use Rattle.monitor.specs.declared.Monitor.{Monitor}
use Rattle.monitor.specs.declared.Seen.{Seen}

-- ---- what is forgotten, and what is cleared

abbrev pub no_parity : Parity
no_parity = record { known = false; value = 0 }

-- "New data .. and rule 3 .. forget the last parity"; all else stays
unfoldable pub forgot : Monitor → Monitor
forgot m = record { parity = no_parity; watch = m.watch }

abbrev pub no_defect : Defect
no_defect = record { with = 0; without = 0; stands = false }

-- A unit with SSF "clears .. parity, accepted values, defects, message place and run, the count to 48, label and defect runs". The fresh monitor's count is 0.
unfoldable pub blank_of : ℕ → Monitor
blank_of without =
    record {
      parity = no_parity;
      watch =
          record {
            label = record { last = 0; run = 0; known = false; value = 0 };
            plm = false;
            uneq = no_defect;
            rdi = no_defect;
            trace = blank_trace without;
          };
    }

-- ---- one container

-- what is watched: dPLM by the label accepted with this container in it; dUNEQ is about label 00
unfoldable pub watch_step : Watch → Overhead → Settings → Watch
watch_step w c e =
    let label = accepted_of w.label c.c2 in
    record {
      label = label;
      plm = plm_of label e.label;
      uneq = defect_of w.uneq (eqb c.c2 0);
      rdi = defect_of w.rdi (remote_of c.g1);
      trace = trace_of w.trace c.j1 e.trace;
    }

-- the monitor after it: its parity is the last one then
unfoldable pub monitor_step : Monitor → Overhead → Settings → Monitor
monitor_step m c e = record { parity = kept_of c.parity; watch = watch_step m.watch c e }

-- and what is told of the container: its violated columns by the parity before it, and the violations returned
unfoldable pub seen_of : Monitor → Overhead → Settings → Seen
seen_of m c e = record { monitor = monitor_step m c e; violated = violated_of m.parity c.b3; returned = returned_of c.g1 }

-- ---- ranges

-- "Counts stop at the end of their range: .. message run .. 3; .. label and defect runs 5; message place 15; containers without a message 48."
unfoldable pub watch_in_range : Watch → Bool
watch_in_range w =
    leb w.label.run 5
    && leb w.uneq.with 5
    && leb w.uneq.without 5
    && leb w.rdi.with 5
    && leb w.rdi.without 5
    && leb w.trace.gathered.place 15
    && leb w.trace.run 3
    && leb w.trace.without 48

-- every last parity is in range
abbrev pub monitor_in_range : Monitor → Bool
monitor_in_range m = watch_in_range m.watch
