-- Whether a unit ended settled, and the unsettled total: 01, "Defects, actions, causes".
use Rattle.std.specs.Prelude.{ℕ, Bool, cond, ◌&&◌, not, List}
use Rattle.counts.specs.Counts.{more}
use Rattle.settings.specs.declared.Settings.{Settings}
use Rattle.trace_message.specs.Message.{alike}
use Rattle.overhead.specs.declared.Accepted.{Accepted}
use Rattle.overhead.specs.Labels.{fits}
use Rattle.trace_monitor.specs.declared.Trace.{Trace}
use Rattle.monitor.specs.declared.Monitor.{Monitor}
use Rattle.unit_end.specs.declared.Defects.{Defects}
use Rattle.unit_end.specs.Actions.{defects_of}

-- "none of the four defects stands"
unfoldable pub none_stands : Defects → Bool
none_stands d = not d.uneq && not d.tim && not d.plm && not d.rdi

-- "accepted label and trace are the expected ones"
unfoldable pub label_expected : Accepted → ℕ → Bool
label_expected a expected = a.known && fits a.value expected

unfoldable pub trace_expected : Trace → List ℕ → Bool
trace_expected t expected = t.known && alike t.accepted expected

-- "a unit ends settled if the state is normal" and these three hold
unfoldable pub settled_of : Bool → Monitor → Settings → Bool
settled_of normal m e =
    normal && none_stands (defects_of m) && label_expected m.watch.label e.label && trace_expected m.watch.trace e.trace

-- "the unsettled total counts all other units since the fresh state and stays at 65,535"
unfoldable pub total_of : ℕ → Bool → ℕ
total_of total settled = cond settled total (more total 65535)
