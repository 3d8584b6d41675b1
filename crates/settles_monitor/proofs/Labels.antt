-- Five containers with one label: it is accepted, and where it fits the one expected, dPLM does not stand. Assumes nothing.
use mathlib.Core.Path.{◌≡◌, refl, sym}
use mathlib.Core.Bool.{true, false}
use Prim.Native.Nat.{ℕ, ◌+◌, ◌≤◌, ◌<◌, min}
use native.Mathlib.Omega.{arith}
use lib.Dec.{eqb, leb}
use borrow.Author.Tests.{eq-eqb, eqb-true, leb-false}
use Rattle.laws.proofs.Tests.{by_test}
use Rattle.counts.specs.Counts.{run_on}
use Rattle.settings.specs.Settings.{label_refused}
use Rattle.overhead.specs.declared.Accepted.{Accepted}
use Rattle.overhead.specs.Accepted.{accepted_of}
use Rattle.overhead.specs.Labels.{fits, plm_of}
use Rattle.settles_monitor.proofs.Runs.{run_up}

-- ---- a label that fits

-- one that fits a label that no number refuses is not refused either
pub fits_fine : (sent expected : ℕ) → fits sent expected ≡ true → label_refused expected ≡ false → label_refused sent ≡ false
unfolding fits
fits_fine sent expected f h = rw (eqb-true sent expected f) h

-- the expected label fits
pub fits_own : (expected : ℕ) → fits expected expected ≡ true
unfolding fits
fits_own expected = eq-eqb expected expected refl

-- ---- how near it is accepted

-- after k containers with the value v
pub record Near (v k : ℕ) (a : Accepted) : Type 0 where
  pub last : 0 < k → a.last ≡ v
  pub runs : min k 5 ≤ a.run
  pub known : 5 ≤ k → a.known ≡ true
  pub value : 5 ≤ k → a.value ≡ v

-- any state, before the first
pub near_none : (v : ℕ) (a : Accepted) → Near v 0 a
near_none v a =
    record {
      last = λ p. absurd (omega arith);
      runs = omega arith;
      known = λ p. absurd (omega arith);
      value = λ p. absurd (omega arith);
    }

-- one container with it
pub near_step : (v k : ℕ) (a : Accepted) → Near v k a → Near v (k + 1) (accepted_of a v)
unfolding accepted_of
near_step v k a n =
    let run = run_on (eqb v a.last) a.run 5 in
    let r : min (k + 1) 5 ≤ run = run_up k a.run 5 (eqb v a.last) (omega arith) (λ p. eq-eqb v a.last (sym (n.last p))) n.runs in
    by_test (Near v (k + 1)) (leb 5 run)
    (λ _. record { last = λ _. refl; runs = r; known = λ _. refl; value = λ _. refl })
    (λ t.
    let s : run < 5 = leb-false 5 run t in
    record { last = λ _. refl; runs = r; known = λ h. absurd (omega arith); value = λ h. absurd (omega arith) })

-- v is accepted
pub record Holds (v : ℕ) (a : Accepted) : Type 0 where
  pub known : a.known ≡ true
  pub value : a.value ≡ v

pub near_holds : (v k : ℕ) (a : Accepted) → 5 ≤ k → Near v k a → Holds v a
near_holds v k a h n = record { known = n.known h; value = n.value h }

-- and where it fits, dPLM does not stand
pub holds_fits : (v expected : ℕ) (a : Accepted) → fits v expected ≡ true → Holds v a → plm_of a expected ≡ false
unfolding plm_of
holds_fits v expected a f h = rw (h.known, h.value, f)
