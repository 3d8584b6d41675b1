-- One container with any C2 and G1 after the label is accepted and the defects are cleared: they stay so. Assumes nothing.
use mathlib.Core.Path.{◌≡◌, refl, ◌∙◌}
use mathlib.Core.Bool.{Bool, true, false}
use Prim.Native.Nat.{ℕ, ◌≤◌}
use native.Mathlib.Omega.{arith}
use lib.Dec.{eqb, leb}
use borrow.Author.Tests.{eqb-true}
use Rattle.laws.proofs.Tests.{by_test}
use Rattle.counts.specs.Counts.{run_on}
use Rattle.overhead.specs.declared.Accepted.{Accepted}
use Rattle.overhead.specs.declared.Defect.{Defect}
use Rattle.overhead.specs.Accepted.{accepted_of}
use Rattle.overhead.specs.Defects.{defect_of}
use Rattle.settles_monitor.proofs.Labels.{Holds, near_holds}
use Rattle.settles_monitor.proofs.Labels as labels
use Rattle.settles_monitor.proofs.Defects as defects

-- ---- the label

-- a container with the label that is accepted
pub label_again : (v : ℕ) (a : Accepted) → Holds v a → Holds v (accepted_of a v)
unfolding accepted_of
label_again v a h =
    by_test (Holds v) (leb 5 (run_on (eqb v a.last) a.run 5))
    (λ _. record { known = refl; value = refl })
    (λ _. record { known = h.known; value = h.value })

-- one with another label: its run is 1
label_other : (v c2 : ℕ) (a : Accepted) → eqb c2 a.last ≡ false → Holds v a → Holds v (accepted_of a c2)
unfolding accepted_of run_on
label_other v c2 a q h = rw q (record { known = h.known; value = h.value })

-- one with either
pub label_hit : (v c2 k : ℕ) (a : Accepted) → 5 ≤ k → labels.Near v k a → Holds v (accepted_of a c2)
label_hit v c2 k a h n = go (eqb c2 a.last) refl
  where
    go : (q : Bool) → eqb c2 a.last ≡ q → Holds v (accepted_of a c2)
    go true q =
        let c : c2 ≡ v = eqb-true c2 a.last q ∙ n.last (omega arith) in
        rw c (label_again v a (near_holds v k a h n))
    go false q = label_other v c2 a q (near_holds v k a h n)

-- ---- a defect

-- a container without it
pub defect_again : (d : Defect) → d.stands ≡ false → (defect_of d false).stands ≡ false
unfolding defect_of
defect_again d h = rw h

-- one with it: one of five
defect_one : (d : Defect) → d.with ≡ 0 → d.stands ≡ false → (defect_of d true).stands ≡ false
unfolding defect_of
defect_one d w h = rw (w, h)

-- one with it or without
pub defect_hit : (k : ℕ) (d : Defect) (bit : Bool) → 5 ≤ k → defects.Near k d → (defect_of d bit).stands ≡ false
defect_hit k d true h n = defect_one d (n.with (omega arith)) (n.cleared h)
defect_hit k d false h n = defect_again d (n.cleared h)
