-- The containers of a container source that is given what is expected, with a label that fits: no call of it is refused, each container is of the right length and carries that, and its
-- B3 is the parity of the one before. So of a run's containers after the one that is under way as it begins. Assumes nothing.
use mathlib.Core.Path.{◌≡◌, sym, ap, subst, ◌∙◌}
use mathlib.Core.List.{List, []}
use mathlib.Core.Bool.{true}
use Prim.Native.Nat.{ℕ, zero, suc, ◌+◌, ◌%◌, ◌≤◌, ◌<◌}
use native.Mathlib.Omega.{arith}
use lib.ListN.{length}
use Rattle.settings.specs.Faults.{settings_faults}
use Rattle.settings.proofs.Refuses.{fine_label, fine_trace, path_fine}
use Rattle.std.specs.Prelude.{Ok}
use Rattle.shape.specs.Shape.{Shape, Fit}
use Rattle.container_source.specs.declared.State.{State}
use Rattle.container_source_theorems.specs.Run.{state_at, outcome_at, container_at}
use Rattle.container_source_theorems.proofs.Refused.{sendable_source}
use Rattle.container_source_theorems.proofs.Payload.{length_sent}
use Rattle.container_source_theorems.proofs.Sequence.{place_at}
use Rattle.monitor.specs.Seeing.{seen_in}
use Rattle.settings.specs.declared.Settings.{Settings}
use Rattle.overhead.specs.Labels.{fits}
use Rattle.settles_monitor.specs.Near.{Like}
use Rattle.settles_monitor.proofs.Labels.{fits_fine}
use Rattle.settles_monitor.proofs.Sources.{sent_like, sent_b3, sent_parity}
use Rattle.settles.specs.Demand.{Making, Given}
use Rattle.settles.proofs.Sources.{made_low}
use Rattle.settles.proofs.Watched.{Sent, Chained}

module _ (s : Shape) (f : Fit s) (m : Making) (label : ℕ) (e : Settings) (low : m.first.place ≤ 15)
    (fitting : fits label e.label ≡ true) (fine : settings_faults e ≡ []) (given : (k : ℕ) → Given s label e (m.calls k))
  where
    abbrev state : ℕ → State
    state k = state_at s m.first m.calls k

    pub made_done : (k : ℕ) → (outcome_at s m.first m.calls k).sent.answer ≡ Ok tt
    made_done k =
        let c = m.calls k in
        let g = given k in
        sendable_source s (state k) c.given c.trace c.payload c.lent
        (record {
          place_is = made_low s m.first m.calls k low;
          path_is = rw (g.label_is, g.trace_is) (path_fine label e.trace (fits_fine label e.label fitting (fine_label e fine)) (fine_trace e fine));
          payload_is = g.payload_is;
          container_is = g.container_is;
          violations_is = g.violations_low;
        })

    pub made_full : (k : ℕ) → length (container_at s m.first m.calls k) ≡ s.size
    made_full k = let c = m.calls k in length_sent s (state k) c.given c.trace c.payload c.lent f (made_done k)

    -- ---- of a run: container 0 is another's

    module _ (box : ℕ → List ℕ) (box-is : (k : ℕ) → box (suc k) ≡ container_at s m.first m.calls k) where
      pub box_full : length (box 0) ≡ s.size → (k : ℕ) → length (box k) ≡ s.size
      box_full under_way zero = under_way
      box_full under_way (suc k) = ap length (box-is k) ∙ made_full k

      -- the first call's place is that of container 1: 15 and one are a message
      pub box_like : (k : ℕ) → 0 < k → Sent s.columns label e box (m.first.place + 15) k
      box_like zero l = absurd (omega arith)
      box_like (suc k) l =
          let g = given k in
          let at = place_at s m.first m.calls (suc k) f (λ j _. made_done j) k (omega arith) in
          let due : (state k).place ≡ (m.first.place + 15 + suc k) % 16 = omega (arith, at) in
          rw (box-is k)
          (subst (λ (i : ℕ). Like label e i (seen_in s.columns (container_at s m.first m.calls k))) due (sent_like s f (state k) (m.calls k) (made_done k) label e g.label_is g.trace_is g.no_remote))

      pub box_chained : (k : ℕ) → 0 < k → Chained s.columns label e box k
      unfolding state_at
      box_chained zero l = absurd (omega arith)
      box_chained (suc k) l =
          rw (box-is (suc k), box-is k)
          (sent_b3 s f (state (suc k)) (m.calls (suc k)) (made_done (suc k)) ∙ sym (sent_parity s f (state k) (m.calls k) (made_done k)))
