-- What a unit leaves: the containers that ended, watched in order, and the bytes held. 01, "Reading one pointer word" (its last words), "Containers out of a unit"
-- and "Defects, actions, causes" ("per container, in order").
use Rattle.std.specs.Prelude.{ℕ, ◌+◌, ◌*◌, Bool, false, cond, List}
use Rattle.shape.specs.Shape.{Shape, place_of, run_from}
use Rattle.shape.specs.declared.Adjustment.{Adjustment}
use Rattle.pointer_rules.specs.Rules.{restarts, adjustment_of}
use Rattle.pointer_rules.specs.declared.Taken.{Taken}
use Rattle.cut.specs.Cut.{cut_of, completed_of, inside_part, ended_count, done_of, held_of}
use Rattle.cut.specs.declared.Cut.{Cut}
use Rattle.monitor.specs.Seeing.{seen_in}
use Rattle.monitor.specs.Monitoring.{forgot, blank_of, seen_of}
use Rattle.monitor.specs.declared.Monitor.{Monitor}
use Rattle.settings.specs.declared.Settings.{Settings}
use Rattle.monitor.specs.declared.Seen.{Seen}
use Rattle.receiving.specs.declared.Begin.{Begin}
use Rattle.receiving.specs.declared.Ended.{Ended}
use Rattle.receiving.specs.declared.AfterUnit.{AfterUnit}

-- ---- a restart

-- "New data (even at the same offset) and rule 3 .. forget the last parity"
abbrev pub monitor_in : Taken → Monitor → Monitor
monitor_in t m = cond (restarts t) (forgot m) m

-- where the run of container bytes begins: what lies before J1 in a restart's unit goes nowhere
unfoldable pub from_in : Shape → Bool → Adjustment → ℕ → ℕ
from_in s restart a offset = cond restart (3 * s.step + place_of s offset) (run_from s.step a)

-- where a unit that ends normal at the offset goes on, its word taken as t: "New data (even at the same offset) and rule 3 drop the held bytes"
unfoldable pub begin_in : Shape → Taken → ℕ → ℕ → Begin
begin_in s t offset count = record { kept = cond (restarts t) 0 count; from = from_in s (restarts t) (adjustment_of t) offset }

-- its cut
abbrev pub cut_in : Shape → Taken → ℕ → ℕ → Cut
cut_in s t offset count = cut_of s (begin_in s t offset count).kept (begin_in s t offset count).from

-- ---- what ended

-- where no container ended
abbrev pub not_seen : Monitor → Seen
not_seen m = record { monitor = m; violated = 0x00; returned = 0 }

-- one container, watched where it ended
unfoldable pub watched : Bool → ℕ → List ℕ → Settings → Monitor → Seen
watched ended columns container e m = cond ended (seen_of m (seen_in columns container) e) (not_seen m)

-- "up to two containers end in a unit": where each is, and what is told of it
unfoldable pub ended_in : Cut → Seen → Seen → Ended
ended_in c first second =
    record {
      number = ended_count c;
      completed = c.ends;
      inside = c.inside;
      place = cond c.inside c.next 0;
      first = record { violated = first.violated; returned = first.returned };
      second = record { violated = second.violated; returned = second.returned };
    }

-- ---- what a unit leaves

pub record UnitOutcome : Type 0 where
  pub after : AfterUnit
  pub held : List ℕ
  pub done : List ℕ

-- "A unit that ends in alarm or lost .. hands back nothing. It clears held count, parity, accepted values, defects, message place and run, the count to 48,
-- label and defect runs"
unfoldable pub silence : AfterUnit
silence =
    record {
      monitor = blank_of 48;
      held = 0;
      ended =
          record {
            number = 0;
            completed = false;
            inside = false;
            place = 0;
            first = record { violated = 0x00; returned = 0 };
            second = record { violated = 0x00; returned = 0 };
          };
    }

-- what a unit cut so leaves, by what is seen of both
abbrev pub after_by : Cut → Seen → Seen → AfterUnit
after_by c first second = record { monitor = second.monitor; held = c.rest; ended = ended_in c first second }

-- what is seen, of the container completed in the done buffer and then of the one inside the unit
unfoldable pub both_seen : Shape → Cut → List ℕ → List ℕ → Monitor → Settings → AfterUnit
both_seen s c completed inside m e =
    let first = watched c.ends s.columns completed e m in
    let second = watched c.inside s.columns inside e first.monitor in
    after_by c first second

-- a unit that ends normal at the offset, its word taken as t, with `count` bytes held before it
unfoldable pub received_normal : Shape → Taken → ℕ → ℕ → Monitor → Settings → List ℕ → List ℕ → List ℕ → UnitOutcome
received_normal s t offset count m e unit held done =
    let c = cut_in s t offset count in
    record {
      after = both_seen s c (completed_of s c unit held) (inside_part s c unit) (monitor_in t m) e;
      held = held_of c unit held;
      done = done_of s c unit held done;
    }
