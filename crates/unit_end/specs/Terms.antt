-- Which defects count where: 01, "Defects, actions, causes". The formulas of actions and causes stand in Actions.antt, over these lists: a path that is terminated is one case,
-- and a path that is watched in another way is another of the same form.
use Rattle.std.specs.Prelude.{Bool, ◌&&◌, ◌||◌, not, List, [], ◌∷◌}
use Rattle.unit_end.specs.declared.Defects.{Defects}

-- a defect by its name
pub data Named : Type 0 where
  dUNEQ dTIM dPLM dRDI : Named

unfoldable pub has : Defects → Named → Bool
has d dUNEQ = d.uneq
has d dTIM = d.tim
has d dPLM = d.plm
has d dRDI = d.rdi

-- "SSF or dUNEQ or dTIM": b, or one of these
unfoldable pub or_any : Bool → Defects → List Named → Bool
or_any b d [] = b
or_any b d (x ∷ xs) = or_any (b || has d x) d xs

-- b, and all of these
unfoldable pub and_all : Bool → Defects → List Named → Bool
and_all b d [] = b
and_all b d (x ∷ xs) = and_all (b && has d x) d xs

-- "not dUNEQ, not dTIM": b, and none of these
unfoldable pub and_none : Bool → Defects → List Named → Bool
and_none b d [] = b
and_none b d (x ∷ xs) = and_none (b && not (has d x)) d xs

-- when a cause stands, as far as defects go: with all of these, and without any of those
pub record Stands : Type 0 where
  pub with : List Named
  pub without : List Named

-- b, and so
abbrev pub standing : Bool → Defects → Stands → Bool
standing b d c = and_none (and_all b d c.with) d c.without

-- the terms: what makes TSF beside SSF, what makes AIS beside TSF, and of each cause that a defect has, when it stands
pub record Terms : Type 0 where
  pub tsf : List Named
  pub ais : List Named
  pub uneq : Stands
  pub tim : Stands
  pub rdi : Stands
  pub plm : Stands

-- THE TERMINATION OF A PATH. "TSF = SSF or dUNEQ or dTIM. AIS = TSF or dPLM." "cUNEQ = dUNEQ ..; cTIM = dTIM, not dUNEQ ..; cRDI = dRDI, not dUNEQ, not dTIM ..; cPLM = dPLM .."
abbrev pub termination : Terms
termination =
    record {
      tsf = dUNEQ ∷ dTIM ∷ [];
      ais = dPLM ∷ [];
      uneq = record { with = dUNEQ ∷ []; without = [] };
      tim = record { with = dTIM ∷ []; without = dUNEQ ∷ [] };
      rdi = record { with = dRDI ∷ []; without = dUNEQ ∷ dTIM ∷ [] };
      plm = record { with = dPLM ∷ []; without = [] };
    }
