-- Demand 3 is not empty: the worst run meets every hypothesis, and settles. It cannot be had with 65 in the place of 66, nor with four in the place of eight. Assumes nothing.
use mathlib.Core.Path.{◌≡◌, refl}
use mathlib.Core.Bool.{Bool, true, false, cond, ◌||◌, false≢true}
use mathlib.Core.List.{[]}
use mathlib.Core.Logic.{◌⊎◌, inl, inr, ⊎_elim}
use Prim.Native.Nat.{ℕ, ◌%◌, ◌<◌}
use native.Mathlib.Omega.{arith}
use lib.Dec.{eqb}
use borrow.Author.Tests.{eqb-true, eqb-false, ne_eqb}
use Rattle.shape.specs.Shape.{au4}
use Rattle.shape.specs.declared.Adjustment.TheVariants.{Nothing, Increment, Decrement}
use Rattle.unit_source.specs.Source.{adjusts}
use Rattle.sink.specs.Sink.{fresh_sink}
use Rattle.sink_theorems.specs.Reach as reach
use Rattle.settles.specs.Demand.{Log, log_of, received_at, Spaced, Settles, Demand, most, eight, unsettled}
use Rattle.settles.proofs.Settled.{demand_3}
use Rattle.settles_tight.specs.Signal.{making}
use Rattle.settles_tight.specs.Runs.{twice, worst, before, up_and_down, early}
use Rattle.settles_tight.proofs.Computed.{worst_total, early_before, early_total}
use Rattle.settles_tight.proofs.Meets.{reached, supplied, good}

-- ---- the worst run

-- the two adjustments, after eight plain units and with three between them
twice_at : (n : ℕ) → adjusts (twice n) ≡ true → (n ≡ 8) ⊎ (n ≡ 12)
unfolding twice adjusts
twice_at n h = go (eqb n 8) (eqb n 12) refl refl h
  where
    go : (a b : Bool) → eqb n 8 ≡ a → eqb n 12 ≡ b → adjusts (cond (a || b) Increment Nothing) ≡ true → (n ≡ 8) ⊎ (n ≡ 12)
    go true b p q e = inl (eqb-true n 8 p)
    go false true p q e = inr (eqb-true n 12 q)
    go false false p q e = absurd (false≢true e)

twice_spaced : Spaced eight twice
unfolding twice
twice_spaced =
    record {
      quiet = λ n l. simp (ne_eqb n 8 (λ e. omega arith), ne_eqb n 12 (λ e. omega arith));
      apart = λ m n l a b.
          ⊎_elim
          (λ p. ⊎_elim (λ q. absurd (omega arith)) (λ q. omega arith) (twice_at n b))
          (λ p. ⊎_elim (λ q. absurd (omega arith)) (λ q. absurd (omega arith)) (twice_at n b))
          (twice_at m a);
    }

abbrev log : Log
log = log_of au4 (making 15) worst

-- it meets all that the demand asks, within whatever number of units
worst_by : (within : ℕ) → Demand within eight au4 → Settles within au4 worst log
unfolding worst
worst_by within d =
    d (making 15) worst (reached 14 (omega arith) twice []) (supplied 14 (omega arith) twice (reach.reached au4 [])) (good 14 (omega arith) twice eight (reach.reached au4 []) twice_spaced)

-- demand 3 holds of it
pub worst_settles : Settles most au4 worst log
worst_settles = worst_by most demand_3

-- whatever number of units it settles within, 66 have ended unsettled
worst_unsettled : (within : ℕ) → Settles within au4 worst log → unsettled (received_at au4 worst) 67 ≡ 66
unfolding worst reach.after_calls fresh_sink
worst_unsettled within h = omega (arith, worst_total, h.total_is 67)

-- EXACTLY 66
pub exactly_66 : unsettled (received_at au4 worst) 67 ≡ 66
exactly_66 = worst_unsettled most worst_settles

-- AND NOT 65
pub not_65 : Demand 65 eight au4 → ⊥
not_65 d =
    let h = worst_by 65 d in
    omega (arith, worst_unsettled 65 h, h.few 67)

-- ---- an adjustment in the fifth unit

-- one in four, from the fifth unit on
up_and_down_at : (n : ℕ) → adjusts (up_and_down n) ≡ true → n % 4 ≡ 0
unfolding up_and_down adjusts
up_and_down_at n h = go (eqb n 0) (eqb (n % 8) 4) (eqb (n % 8) 0) refl refl refl h
  where
    go : (a b c : Bool) → eqb n 0 ≡ a → eqb (n % 8) 4 ≡ b → eqb (n % 8) 0 ≡ c → adjusts (cond a Nothing (cond b Increment (cond c Decrement Nothing))) ≡ true → n % 4 ≡ 0
    go true b c p q r e = absurd (false≢true e)
    go false true c p q r e = omega (arith, eqb-true (n % 8) 4 q)
    go false false true p q r e = omega (arith, eqb-true (n % 8) 0 r)
    go false false false p q r e = absurd (false≢true e)

up_and_down_spaced : Spaced 4 up_and_down
unfolding up_and_down
up_and_down_spaced =
    record {
      quiet = λ n l. go n l (eqb n 0) refl;
      apart = λ m n l a b. omega (arith, up_and_down_at m a, up_and_down_at n b);
    }
  where
    go : (n : ℕ) → n < 4 → (b : Bool) → eqb n 0 ≡ b → cond b Nothing (cond (eqb (n % 8) 4) Increment (cond (eqb (n % 8) 0) Decrement Nothing)) ≡ Nothing
    go n l true p = refl
    go n l false p =
        let some = eqb-false n 0 p in
        simp (ne_eqb (n % 8) 4 (λ e. omega arith), ne_eqb (n % 8) 0 (λ e. some (omega arith)))

-- EIGHT CANNOT BE FOUR: of this run, which meets all else, none of the first 67 units ends settled
pub not_four : Demand most 4 au4 → ⊥
unfolding early
not_four d =
    let h = d (making 15) early (reached 14 (omega arith) up_and_down before) (supplied 14 (omega arith) up_and_down (reach.reached au4 before)) (good 14 (omega arith) up_and_down 4 (reach.reached au4 before) up_and_down_spaced) in
    omega (arith, early_total, h.total_is 67, h.few 67, early_before)
