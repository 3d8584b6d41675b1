-- "The only causes that stand together are cSSF with cAIS, cSSF with cLOP, cRDI with cPLM": 01, "Defects, actions, causes". What the theorem of proofs/Together.antt speaks of.
use Rattle.std.specs.Prelude.{ℕ, Bool, false, ◌&&◌, ◌||◌, not, List, [], ◌∷◌, eqb}
use Rattle.unit_end.specs.declared.Defects.{Defects}
use Rattle.unit_end.specs.declared.Causes.{Causes}
use Rattle.unit_end.specs.Actions.{ssf_of}

-- ---- a cause

pub data Cause : Type 0 where
  cAIS cLOP cSSF cUNEQ cTIM cRDI cPLM : Cause

-- whether it stands
unfoldable pub stands : Causes → Cause → Bool
stands c cAIS = c.ais
stands c cLOP = c.lop
stands c cSSF = c.ssf
stands c cUNEQ = c.uneq
stands c cTIM = c.tim
stands c cRDI = c.rdi
stands c cPLM = c.plm

-- the others that may stand with it: the three pairs
unfoldable pub partners : Cause → List Cause
partners cAIS = cSSF ∷ []
partners cLOP = cSSF ∷ []
partners cSSF = cAIS ∷ cLOP ∷ []
partners cUNEQ = []
partners cTIM = []
partners cRDI = cPLM ∷ []
partners cPLM = cRDI ∷ []

-- ---- one of several

-- its place in the paper's order
unfoldable pub cause_place : Cause → ℕ
cause_place cAIS = 1
cause_place cLOP = 2
cause_place cSSF = 3
cause_place cUNEQ = 4
cause_place cTIM = 5
cause_place cRDI = 6
cause_place cPLM = 7

unfoldable pub among : Cause → List Cause → Bool
among a [] = false
among a (b ∷ bs) = eqb (cause_place a) (cause_place b) || among a bs

-- ---- what holds at every unit's end

-- the state is one of normal, alarm and lost, and a unit with SSF clears the defects
unfoldable pub related : Bool → Bool → Defects → Bool
related alarm lost d = not (alarm && lost) && not (ssf_of alarm lost && (d.uneq || d.tim || d.plm || d.rdi))
