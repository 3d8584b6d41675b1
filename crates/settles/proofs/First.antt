-- A source that makes container 0 too with the settings of the run, such as a fresh one: that container is of the right length, and the source then stands at the next. So it
-- settles like any other, and none of its calls is refused. Assumes nothing.
use mathlib.Core.Path.{◌≡◌, refl, sym, ap, ◌∙◌}
use mathlib.Core.Bool.{true}
use Prim.Native.Nat.{ℕ, zero, suc, ◌*◌, ◌≤◌}
use lib.ListN.{length}
use Rattle.shape.specs.Shape.{Shape, Fit}
use Rattle.container_source.specs.declared.State.{State}
use Rattle.container_source_theorems.specs.Run as sending
use Rattle.overhead.specs.Labels.{fits}
use Rattle.settles.specs.Demand.{Run, Making, Fine, Given, Spaced, Supplied, Good, Settles, most, log_of}
use Rattle.settles.proofs.Sources.{made_low}
use Rattle.settles.proofs.Along.{five}
use Rattle.settles.proofs.Signal.{made_done, made_full}
use Rattle.settles.proofs.Settled.{InRange, settles}

-- the source after its first call, and the calls after it
abbrev pub later : Shape → Making → Making
later s m = record { first = sending.state_at s m.first m.calls 1; calls = λ k. m.calls (suc k) }

later_is : (s : Shape) (m : Making) (k : ℕ) → sending.state_at s (later s m).first (later s m).calls k ≡ sending.state_at s m.first m.calls (suc k)
unfolding sending.state_at
later_is s m zero = refl
later_is s m (suc k) = ap (λ (x : State). (sending.container_source_called s x (m.calls (suc k))).sent.state) (later_is s m k)

module _ (noneBefore : ℕ) (s : Shape) (m : Making) (r : Run) (f : Fit s) (i : InRange s m r) (fine : Fine s r)
    (box-is : (k : ℕ) → r.box k ≡ sending.container_at s m.first m.calls k) (label : ℕ) (fitting : fits label r.settings.label ≡ true)
    (given : (k : ℕ) → Given s label r.settings (m.calls k)) (spaced : Spaced noneBefore r.ask)
  where
    first_supplied : Supplied s (later s m) r
    first_supplied k = box-is (suc k) ∙ ap (λ (x : State). (sending.container_source_called s x (m.calls (suc k))).container) (sym (later_is s m k))

    first_good : Good noneBefore s (later s m) r
    first_good =
        record {
          fine = fine;
          under_way = ap length (box-is 0) ∙ made_full s f m label r.settings i.first_in fitting fine.settings_fine given 0;
          label = label;
          label_fits = fitting;
          given = λ k. given (suc k);
          spaced = spaced;
        }

    pub first_settles : five ≤ noneBefore → 64 * s.step ≤ s.size → Settles most s r (log_of s m r)
    first_settles some steps =
        let later-in : InRange s (later s m) r =
        record { state_in = i.state_in; total_low = i.total_low; whole = i.whole; source_in = i.source_in; first_in = made_low s m.first m.calls 1 i.first_in }
        in
        let h = settles noneBefore s (later s m) r some f steps later-in first_supplied first_good in
        record {
          made_done = made_done s f m label r.settings i.first_in fitting fine.settings_fine given;
          sent_done = h.sent_done;
          fed_done = h.fed_done;
          few = h.few;
          total_is = h.total_is;
          back = h.back;
          in_order = h.in_order;
          no_column = h.no_column;
          settled = h.settled;
          no_defect = h.no_defect;
        }
