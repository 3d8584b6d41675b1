-- Which causes stand together, at every state, with every defect and every flag: computed at all of them. Assumes nothing.
use mathlib.Core.Path.{◌≡◌, refl}
use mathlib.Core.Bool.{Bool, true, false, ◌&&◌, ◌||◌, not}
use mathlib.Core.List.{List, [], ◌∷◌}
use Prim.Native.Nat.{ℕ}
use native.Mathlib.Omega.{arith}
use lib.ListN.{get_or}
use Rattle.trace_monitor.specs.Trace.{blank_trace}
use Rattle.monitor.specs.Monitoring.{blank_of}
use Rattle.settings.specs.declared.Flags.{Flags}
use Rattle.unit_end.specs.declared.Defects.{Defects}
use Rattle.unit_end.specs.declared.Causes.{Causes}
use Rattle.unit_end.specs.Terms.{has, or_any, and_all, and_none, termination}
use Rattle.unit_end.specs.Actions.{defects_of, causes_of}
use Rattle.unit_end.specs.Together.{Cause, cAIS, cLOP, cSSF, cUNEQ, cTIM, cRDI, cPLM, stands, partners, cause_place, among, related}
use Rattle.unit_end.proofs.Decide.{unless, all, all_at, every, every_at}

-- ---- every two causes

causes : List Cause
causes = cAIS ∷ cLOP ∷ cSSF ∷ cUNEQ ∷ cTIM ∷ cRDI ∷ cPLM ∷ []

-- the list has them all
cause_at : (p : Cause → Bool) → every p causes ≡ true → (a : Cause) → p a ≡ true
unfolding causes
cause_at p h cAIS = every_at p causes h cAIS 0 (omega arith)
cause_at p h cLOP = every_at p causes h cAIS 1 (omega arith)
cause_at p h cSSF = every_at p causes h cAIS 2 (omega arith)
cause_at p h cUNEQ = every_at p causes h cAIS 3 (omega arith)
cause_at p h cTIM = every_at p causes h cAIS 4 (omega arith)
cause_at p h cRDI = every_at p causes h cAIS 5 (omega arith)
cause_at p h cPLM = every_at p causes h cAIS 6 (omega arith)

-- if two stand, the second is the first or one of its partners
paired : Causes → Cause → Cause → Bool
paired c a b = not (stands c a) || (not (stands c b) || among b (a ∷ partners a))

paired_where : Bool → Bool → Defects → Flags → Bool
paired_where alarm lost d f = not (related alarm lost d) || every (λ a. every (paired (causes_of termination alarm lost d f) a) causes) causes

-- ---- at every state, with every defect and flag

defects_at : List Bool → Defects
defects_at bs = record { uneq = get_or bs 2 false; tim = get_or bs 3 false; plm = get_or bs 4 false; rdi = get_or bs 5 false }

flags_at : List Bool → Flags
flags_at bs = record { monitored = get_or bs 6 false; rdi = get_or bs 7 false; ssf = get_or bs 8 false; ais = get_or bs 9 false }

-- computed at all 1024
all_paired : all 10 (λ bs. paired_where (get_or bs 0 false) (get_or bs 1 false) (defects_at bs) (flags_at bs)) ≡ true
unfolding all every causes paired_where paired defects_at flags_at related has or_any and_all and_none causes_of stands partners cause_place among
all_paired = refl

paired_where_lem : (alarm lost : Bool) (d : Defects) (f : Flags) → paired_where alarm lost d f ≡ true
unfolding defects_at flags_at
paired_where_lem alarm lost d f =
    all_at 10 (λ bs. paired_where (get_or bs 0 false) (get_or bs 1 false) (defects_at bs) (flags_at bs)) all_paired
    (alarm ∷ lost ∷ d.uneq ∷ d.tim ∷ d.plm ∷ d.rdi ∷ f.monitored ∷ f.rdi ∷ f.ssf ∷ f.ais ∷ []) refl

-- ---- the theorem

-- Of two causes that stand, the second is the first or one of its partners.
pub together :
    (alarm lost : Bool) (d : Defects) (f : Flags) → related alarm lost d ≡ true
    → (a b : Cause) → stands (causes_of termination alarm lost d f) a ≡ true → stands (causes_of termination alarm lost d f) b ≡ true
    → among b (a ∷ partners a) ≡ true
unfolding paired_where paired
together alarm lost d f h a b p q =
    let c = causes_of termination alarm lost d f in
    let e = unless (related alarm lost d) (every (λ a. every (paired c a) causes) causes) h (paired_where_lem alarm lost d f) in
    let k = cause_at (paired c a) (cause_at (λ a. every (paired c a) causes) e a) b in
    unless (stands c b) (among b (a ∷ partners a)) q (unless (stands c a) (not (stands c b) || among b (a ∷ partners a)) p k)

-- What a unit with SSF leaves is related: the clearing leaves no defect.
pub cleared_related : (alarm lost : Bool) (n : ℕ) → not (alarm && lost) ≡ true → related alarm lost (defects_of (blank_of n)) ≡ true
unfolding related defects_of blank_of blank_trace
cleared_related true true n h = h
cleared_related true false n h = refl
cleared_related false true n h = refl
cleared_related false false n h = refl

-- Without SSF every defect is.
pub normal_related : (d : Defects) → related false false d ≡ true
unfolding related
normal_related d = refl
