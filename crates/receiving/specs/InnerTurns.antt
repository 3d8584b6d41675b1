-- How the code comes to `both_seen` (Receiving.antt): what is seen of each container first, and then both taken in, one after the other. No rule of 01 stands here.
use Rattle.std.specs.Prelude.{ℕ, Bool, cond, List, Option, Some, None}
use Rattle.cut.specs.declared.Cut.{Cut}
use Rattle.monitor.specs.Seeing.{seen_in}
use Rattle.monitor.specs.Monitoring.{seen_of}
use Rattle.monitor.specs.declared.Monitor.{Monitor}
use Rattle.settings.specs.declared.Settings.{Settings}
use Rattle.monitor.specs.declared.Overhead.{Overhead}
use Rattle.monitor.specs.declared.Seen.{Seen}
use Rattle.receiving.specs.declared.AfterUnit.{AfterUnit}
use Rattle.receiving.specs.Receiving.{not_seen, after_by}

abbrev pub seen_where : Bool → ℕ → List ℕ → Option Overhead
seen_where ended columns container = cond ended (Some (seen_in columns container)) None

-- one container taken in, or none
abbrev pub taken : Option Overhead → Settings → Monitor → Seen
taken (Some o) e m = seen_of m o e
taken None e m = not_seen m

abbrev pub taken_both : Cut → Option Overhead → Option Overhead → Monitor → Settings → AfterUnit
taken_both c completed inside m e =
    let first = taken completed e m in
    after_by c first (taken inside e first.monitor)
