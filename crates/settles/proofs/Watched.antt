-- Containers of one signal, watched one after the other: how near the monitor is, and that none has a violated column. Nothing is asked of those before the first that is watched.
-- Of the others each is asked for by itself, and only those that are watched, so that a row in which one differs is told of up to it. Assumes nothing.
use mathlib.Core.Path.{◌≡◌, refl, ap, ap₂, ◌∙◌}
use mathlib.Core.List.{List, ◌∷◌}
use Prim.Native.Nat.{ℕ, zero, suc, ◌+◌, ◌%◌, ◌≤◌, ◌<◌}
use native.Mathlib.Nat.{add-zero}
use native.Mathlib.Numerals.{add-one}
use native.Mathlib.Omega.{arith}
use lib.ListN.{replicate}
use Rattle.overhead.specs.declared.Parity.{Parity}
use Rattle.overhead.specs.Violations.{violated_of, kept_of}
use Rattle.monitor.specs.Seeing.{seen_in}
use Rattle.monitor.specs.Monitoring.{monitor_step}
use Rattle.monitor.specs.declared.Monitor.{Monitor}
use Rattle.settings.specs.declared.Settings.{Settings}
use Rattle.settles_monitor.specs.Near.{Setting, Like}
use Rattle.settles_monitor.proofs.Settles.{Near, near_step, parity_kept, none_violated}
use Rattle.settles_stream.specs.InOrder.{boxes}
use Rattle.settles_stream.specs.Inner.{watched_all, violated_all}

module _ (columns label : ℕ) (e : Settings) (box : ℕ → List ℕ) where
  -- container j carries this label and what is expected, and the byte of the message that is then due: the one at `place` in container 0
  abbrev pub Sent : ℕ → ℕ → Type 0
  Sent place j = Like label e ((place + j) % 16) (seen_in columns (box j))

  -- its B3 is the parity of the one before
  abbrev pub Chained : ℕ → Type 0
  Chained j = (seen_in columns (box (suc j))).b3 ≡ (seen_in columns (box j)).parity

  -- n of them, from number i on: so many are asked for, and no others
  pub near_all : (place i k n : ℕ) (m : Monitor) → Setting label e → ((j : ℕ) → i ≤ j → j < i + n → Sent place j) → Near label e ((place + i) % 16) k m
      → Near label e ((place + (i + n)) % 16) (k + n) (watched_all columns e m (boxes box i n))
  unfolding watched_all boxes
  near_all place i k zero m g like h = rw (add-zero i, add-zero k) h
  near_all place i k (suc n) m g like h =
      let next : ((place + i) % 16 + 1) % 16 ≡ (place + (i + 1)) % 16 = omega arith in
      let step = rw next at (near_step label e ((place + i) % 16) k m (seen_in columns (box i)) g (omega arith) (like i (omega arith) (omega arith)) h) in
      let from : i + suc n ≡ i + 1 + n = omega arith in
      let many : k + suc n ≡ k + 1 + n = omega arith in
      rw (from, many) (near_all place (i + 1) (k + 1) n (monitor_step m (seen_in columns (box i)) e) g (λ j l o. like j (omega arith) (omega arith)) step)

  -- the last of them leaves its parity
  pub parity_all : (i n : ℕ) (m : Monitor) → (watched_all columns e m (boxes box i (suc n))).parity ≡ kept_of (seen_in columns (box (i + n))).parity
  unfolding watched_all boxes
  parity_all i zero m = rw add-zero (parity_kept m (seen_in columns (box i)) e)
  parity_all i (suc n) m =
      let from : i + suc n ≡ i + 1 + n = omega arith in
      rw from (parity_all (i + 1) n (monitor_step m (seen_in columns (box i)) e))

  -- after one of them, the others have no violated column
  pub none_violated_all : (i n : ℕ) (m : Monitor) → ((j : ℕ) → i ≤ j → j < i + n → Chained j) → m.parity ≡ kept_of (seen_in columns (box i)).parity
      → violated_all columns e m (boxes box (suc i) n) ≡ replicate n 0x00
  unfolding violated_all boxes
  none_violated_all i zero m chain h = refl
  none_violated_all i (suc n) m chain h =
      let c = seen_in columns (box (suc i)) in
      let now = ap (λ (p : Parity). violated_of p c.b3) h ∙ none_violated (seen_in columns (box i)).parity c.b3 (chain i (omega arith) (omega arith)) in
      rw (add-one (suc i))
      (ap₂ (λ (v : ℕ) (vs : List ℕ). v ∷ vs) now (none_violated_all (suc i) n (monitor_step m c e) (λ j l o. chain j (omega arith) (omega arith)) (parity_kept m c e)))

  -- so the parity kept is that of the last container watched, i being its number, through any number of them
  pub parity_on : (number many n : ℕ) (m : Monitor) → ((i : ℕ) → suc i ≡ number → 0 < many → m.parity ≡ kept_of (seen_in columns (box i)).parity)
      → (i : ℕ) → suc i ≡ number + n → 0 < many + n → (watched_all columns e m (boxes box number n)).parity ≡ kept_of (seen_in columns (box i)).parity
  unfolding watched_all boxes
  parity_on number many zero m h i e p = h i (omega arith) (omega arith)
  parity_on number many (suc n) m h i e p =
      let last : i ≡ number + n = omega arith in
      rw last (parity_all number n m)
