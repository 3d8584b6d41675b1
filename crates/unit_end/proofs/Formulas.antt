-- The formulas of a termination, written out: the terms add nothing to them, and leave nothing out. Assumes nothing.
use mathlib.Core.Path.{◌≡◌, refl}
use mathlib.Core.Bool.{Bool, ◌&&◌, ◌||◌, not}
use Rattle.settings.specs.declared.Flags.{Flags}
use Rattle.unit_end.specs.declared.Defects.{Defects}
use Rattle.unit_end.specs.Terms.{has, or_any, and_all, and_none, termination}
use Rattle.unit_end.specs.Actions.{tsf_of, actions_of, causes_of}

-- "TSF = SSF or dUNEQ or dTIM"
pub tsf_are : (ssf : Bool) (d : Defects) → (ssf || d.uneq || d.tim) ≡ tsf_of termination ssf d
unfolding has or_any
tsf_are ssf d = refl

-- "AIS = TSF or dPLM. RDI = TSF."
pub actions_are : (ssf tsf : Bool) (d : Defects) → tsf ≡ tsf_of termination ssf d
    → record { ssf = ssf; tsf = tsf; ais = tsf || d.plm; rdi = tsf } ≡ actions_of termination ssf d
unfolding has or_any actions_of
actions_are ssf tsf d e = rw e refl

-- "cUNEQ = dUNEQ, monitored; cTIM = dTIM, not dUNEQ, monitored; cRDI = dRDI, not dUNEQ, not dTIM, monitored, RDI reported; cPLM = dPLM and not TSF"
pub causes_are : (alarm lost tsf : Bool) (d : Defects) (f : Flags) → tsf ≡ tsf_of termination (alarm || lost) d
    → record {
      ais = alarm && f.ais;
      lop = lost;
      ssf = (alarm || lost) && f.monitored && f.ssf;
      uneq = f.monitored && d.uneq;
      tim = f.monitored && d.tim && not d.uneq;
      rdi = f.monitored && f.rdi && d.rdi && not d.uneq && not d.tim;
      plm = not tsf && d.plm;
    }
    ≡ causes_of termination alarm lost d f
unfolding has and_all and_none causes_of
causes_are alarm lost tsf d f e = rw e refl
