-- Actions and causes, of 01, "Defects, actions, causes": they "are taken at the unit's end", after its last container, whichever defects count (Terms.antt).
use Rattle.std.specs.Prelude.{Bool, false, ◌&&◌, ◌||◌, not}
use Rattle.settings.specs.declared.Flags.{Flags}
use Rattle.monitor.specs.declared.Monitor.{Monitor}
use Rattle.unit_end.specs.declared.Defects.{Defects}
use Rattle.unit_end.specs.declared.Actions.{Actions}
use Rattle.unit_end.specs.declared.Causes.{Causes}
use Rattle.unit_end.specs.Terms.{Terms, or_any, standing}

-- the four defects, as the monitor has them
unfoldable pub defects_of : Monitor → Defects
defects_of m = record { uneq = m.watch.uneq.stands; tim = m.watch.trace.tim; plm = m.watch.plm; rdi = m.watch.rdi.stands }

-- ---- actions

-- "a unit that ends in alarm or lost has SSF"
abbrev pub ssf_of : Bool → Bool → Bool
ssf_of alarm lost = alarm || lost

-- "TSF = SSF or dUNEQ or dTIM"
abbrev pub tsf_of : Terms → Bool → Defects → Bool
tsf_of t ssf d = or_any ssf d t.tsf

-- "AIS = TSF or dPLM. RDI = TSF." REI is the violations, per container: the ones of the columns that the monitor tells.
unfoldable pub actions_of : Terms → Bool → Defects → Actions
actions_of t ssf d =
    let tsf = tsf_of t ssf d in
    record { ssf = ssf; tsf = tsf; ais = or_any tsf d t.ais; rdi = tsf }

-- ---- causes

-- "cAIS = alarm and AIS reported; cLOP = lost; cSSF = SSF, monitored, SSF reported; cUNEQ = .., monitored; cTIM = .., monitored;
-- cRDI = .., monitored, RDI reported; cPLM = .. and not TSF"; the defects by the terms
unfoldable pub causes_of : Terms → Bool → Bool → Defects → Flags → Causes
causes_of t alarm lost d f =
    record {
      ais = alarm && f.ais;
      lop = lost;
      ssf = ssf_of alarm lost && f.monitored && f.ssf;
      uneq = standing f.monitored d t.uneq;
      tim = standing f.monitored d t.tim;
      rdi = standing (f.monitored && f.rdi) d t.rdi;
      plm = standing (not (tsf_of t (ssf_of alarm lost) d)) d t.plm;
    }

-- ---- where nothing is told of a unit

abbrev pub no_defects : Defects
no_defects = record { uneq = false; tim = false; plm = false; rdi = false }

abbrev pub no_actions : Actions
no_actions = record { ssf = false; tsf = false; ais = false; rdi = false }

abbrev pub no_causes : Causes
no_causes = record { ais = false; lop = false; ssf = false; uneq = false; tim = false; rdi = false; plm = false }
