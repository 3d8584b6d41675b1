-- A run worked out, computed by the check from the definitions: the 62nd container does not settle the monitor, the 63rd does. Assumes nothing.
use mathlib.Core.Path.{◌≡◌, refl}
use mathlib.Core.Bool.{Bool, true, false}
use Prim.Native.Nat.{ℕ, zero, suc, ◌+◌, ◌%◌}
use lib.ListN.{get_or, replicate}
use Rattle.counts.specs.Counts.{run_on}
use Rattle.trace_message.specs.Message.{coefficients, polynomial, minus, remainder, number, check7, start_byte, message, top_bits_clear, good_message, alike}
use Rattle.overhead.specs.Violations.{kept_of}
use Rattle.overhead.specs.Accepted.{accepted_of}
use Rattle.overhead.specs.Labels.{fits, plm_of}
use Rattle.overhead.specs.Defects.{defect_of, remote_of}
use Rattle.trace_monitor.specs.Trace.{gathered_of, ends_good, spoils, with_good, without_good, trace_of, blank_trace}
use Rattle.monitor.specs.declared.Overhead.{Overhead}
use Rattle.settings.specs.declared.Settings.{Settings}
use Rattle.monitor.specs.declared.Monitor.{Monitor}
use Rattle.monitor.specs.Monitoring.{blank_of, watch_step, monitor_step}
use Rattle.unit_end.specs.Actions.{defects_of}
use Rattle.unit_end.specs.Settled.{none_stands, label_expected, trace_expected, settled_of}
use Rattle.settles_monitor.specs.Near.{enough, Like}

-- label 12, and a trace of fifteen A
abbrev pub settings : Settings
settings = record { label = 0x12; trace = replicate 15 0x41; flags = record { monitored = true; rdi = true; ssf = true; ais = true } }

-- a container of zeros but for its label and J1
unfoldable pub empty : ℕ → Overhead
empty place = record { j1 = get_or (message settings.trace) place 0; b3 = 0; c2 = settings.label; g1 = 0; parity = 0 }

-- it is one of those that the theorem is about
pub empty_like : (i : ℕ) → Like settings.label settings i (empty i)
unfolding empty remote_of
empty_like i = record { label = refl; remote = refl; byte = refl }

-- a monitor after n of them, the first with the byte at this place
unfoldable pub after : ℕ → ℕ → Monitor → Monitor
after zero place m = m
after (suc n) place m = after n ((place + 1) % 16) (monitor_step m (empty place) settings)

-- whether n of them settle the fresh monitor, the first with the byte after the start byte
unfoldable pub settles : ℕ → Bool
settles n = settled_of true (after n 1 (blank_of 0)) settings

pub not_62 : settles 62 ≡ false
unfolding settles after empty blank_of blank_trace watch_step monitor_step kept_of accepted_of fits plm_of defect_of remote_of trace_of gathered_of ends_good spoils with_good without_good run_on good_message top_bits_clear alike message start_byte check7 number remainder minus polynomial coefficients settled_of defects_of none_stands label_expected trace_expected
not_62 = refl

pub at_63 : settles enough ≡ true
unfolding settles after empty blank_of blank_trace watch_step monitor_step kept_of accepted_of fits plm_of defect_of remote_of trace_of gathered_of ends_good spoils with_good without_good run_on good_message top_bits_clear alike message start_byte check7 number remainder minus polynomial coefficients settled_of defects_of none_stands label_expected trace_expected
at_63 = refl
