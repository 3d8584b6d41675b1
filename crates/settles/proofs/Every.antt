-- Every run, whatever its containers hold: no call is refused, the total counts the unsettled units, and from the fourth unit on each unit hands back the containers that the
-- source says ended, watched in order. Assumes nothing.
use mathlib.Core.Path.{◌≡◌, refl, sym, ap, ap₂, ◌∙◌}
use mathlib.Core.Bool.{Bool, true, false, cond}
use mathlib.Core.List.{List, ◌++◌}
use Prim.Native.Nat.{ℕ, zero, suc, ◌+◌, ◌≤◌, min}
use native.Mathlib.Omega.{arith}
use Rattle.std.specs.Prelude.{Ok}
use Rattle.shape.specs.Shape.{Shape, ended_by}
use Rattle.unit_source.specs.Source as unit-source
use Rattle.unit_source_theorems.specs.Sending as stream
use Rattle.settles_stream.specs.InOrder.{boxes, violated_told}
use Rattle.settles_stream.specs.Inner.{watched_all, violated_all}
use Rattle.settles_stream.proofs.Together.{boxes_append}
use Rattle.unit_end.specs.Settled.{settled_of, total_of}
use Rattle.settles.specs.Demand.{Run, Path, path_after, path_at, sent_at, fed_at, made_at, received_at, handed_at, unsettled, handed_from, ended_from}
use Rattle.settles.proofs.Units.{sent_is, fed_done, settled_is, total_after, normal, handed_goes, monitor_goes, told_goes}
use Rattle.settles.proofs.Along.{Runs, Along, Meets, along, late, meets, number_is}
use Rattle.settles.proofs.Count.{number_at}

-- one more unit, settled or not
total_on : (settled : Bool) (total before n : ℕ) → total ≡ min (before + n) 65535 → total_of total settled ≡ min (before + (n + cond settled 0 1)) 65535
unfolding total_of
total_on true total before n e = omega arith
total_on false total before n e = omega arith

module _ (s : Shape) (r : Run) (u : Runs s r) where
  -- no call is refused
  pub sent_all : (n : ℕ) → (sent_at s r n).made.answer ≡ Ok tt
  sent_all n = ap (λ (o : unit-source.MadeOutcome). o.made.answer) (sent_is s u.fit r u.set (path_at s r n) (r.ask n) (along s r u n).ready (late s r u n (path_at s r n) (along s r u n)))

  pub fed_all : (n : ℕ) → (fed_at s r n).received.answer ≡ Ok tt
  fed_all n = fed_done s u.fit r u.set (path_at s r n) (r.ask n) (along s r u n).ready (late s r u n (path_at s r n) (along s r u n))

  ended_is : (n : ℕ) → (sent_at s r n).made.ended ≡ ended_by (r.ask n) (path_at s r n).source.state.offset
  ended_is n = ap (λ (o : unit-source.MadeOutcome). o.made.ended) (sent_is s u.fit r u.set (path_at s r n) (r.ask n) (along s r u n).ready (late s r u n (path_at s r n) (along s r u n)))

  -- the source goes on as many containers as it says ended
  pub number_on : (n : ℕ) → number_at s r u (suc n) ≡ number_at s r u n + (sent_at s r n).made.ended
  unfolding path_at
  number_on n = number_is s r u n (path_at s r n) (along s r u n) ∙ ap (λ (k : ℕ). number_at s r u n + k) (sym (ended_is n))

  -- the total counts the unsettled units
  pub total_all : (n : ℕ) → (path_at s r n).state.total ≡ min (r.state.total + unsettled (received_at s r) n) 65535
  unfolding path_at unsettled
  total_all zero = omega (arith, u.ready.total_low)
  total_all (suc n) =
      let x = path_at s r n in
      let settled = (fed_at s r n).received.settled in
      total_after s u.fit r u.set x (r.ask n) (along s r u n).ready (late s r u n x (along s r u n))
      ∙ total_on settled x.state.total r.state.total (unsettled (received_at s r) n) (total_all n)

  -- from the fourth unit on: what is handed back, what the monitor has watched, and the columns told
  module _ (n : ℕ) (w : 3 ≤ n) where
    abbrev x : Path
    x = path_at s r n

    abbrev h : Along s r n x
    h = along s r u n

    abbrev m : Meets s x (r.ask n)
    m = meets s r u n x h w

    abbrev cs : List (List ℕ)
    cs = boxes r.box x.source.number (sent_at s r n).made.ended

    pub handed_all : handed_at s r (path_at s r) (received_at s r) n ≡ cs
    unfolding path_at path_after stream.sending_after
    handed_all =
        handed_goes s u.fit r u.set x (r.ask n) h.ready (late s r u n x h) m.was m.taken_is m.now (h.together w)
        ∙ ap (boxes r.box x.source.number) (sym (ended_is n))

    pub monitor_all : (path_at s r (suc n)).state.monitor ≡ watched_all s.columns r.settings x.state.monitor cs
    unfolding path_at
    monitor_all =
        monitor_goes s u.fit r u.set x (r.ask n) h.ready (late s r u n x h) m.was m.taken_is m.now (h.together w)
        ∙ ap (λ (k : ℕ). watched_all s.columns r.settings x.state.monitor (boxes r.box x.source.number k)) (sym (ended_is n))

    pub told_all : violated_told (fed_at s r n).received.ended ≡ violated_all s.columns r.settings x.state.monitor cs
    told_all =
        told_goes s u.fit r u.set x (r.ask n) h.ready (late s r u n x h) m.was m.taken_is m.now (h.together w)
        ∙ ap (λ (k : ℕ). violated_all s.columns r.settings x.state.monitor (boxes r.box x.source.number k)) (sym (ended_is n))

    pub settled_all : (fed_at s r n).received.settled ≡ settled_of true (path_at s r (suc n)).state.monitor r.settings
    unfolding path_at
    settled_all =
        settled_is s u.fit r u.set x (r.ask n) h.ready (late s r u n x h)
        ∙ ap (λ (b : Bool). settled_of b (path_after s r x (r.ask n)).state.monitor r.settings) (normal s u.fit r u.set x (r.ask n) h.ready (late s r u n x h) m.was m.taken_is m.now)

  -- in any units one after the other
  pub in_order_all : (units n : ℕ) → 3 ≤ n → handed_from s r (path_at s r) (received_at s r) n units ≡ boxes r.box (number_at s r u n) (ended_from (made_at s r) n units)
  unfolding handed_from ended_from boxes
  in_order_all zero n w = refl
  in_order_all (suc units) n w =
      ap₂ (λ (a b : List (List ℕ)). a ++ b) (handed_all n w)
      (in_order_all units (suc n) (omega arith) ∙ ap (λ (k : ℕ). boxes r.box k (ended_from (made_at s r) (suc n) units)) (number_on n))
      ∙ boxes_append r.box (number_at s r u n) (sent_at s r n).made.ended (ended_from (made_at s r) (suc n) units)
