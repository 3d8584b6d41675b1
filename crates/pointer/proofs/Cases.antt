-- What a word leads to, by how it was taken: each way through the code is a row of the tables. Assumes nothing.
use mathlib.Core.Path.{◌≡◌, refl}
use mathlib.Core.Bool.{Bool, true, false, ◌&&◌}
use mathlib.Core.Logic.{◌⊎◌, inl, inr}
use Prim.Native.Nat.{ℕ, ◌≤◌, ◌<◌}
use borrow.Author.Tests.{le-leb, lt-leb}
use lib.Dec.{leb}
use Rattle.counts.specs.Counts.{more}
use Rattle.shape.specs.declared.Adjustment.{Adjustment}
use Rattle.pointer_state.specs.State.{is_normal, placed}
use Rattle.pointer_state.specs.declared.State.{State}
use Rattle.pointer_state.specs.declared.State.TheVariants.{Normal, Alarm, Lost}
use Rattle.pointer_rules.specs.Rules.{run_after, taken_as}
use Rattle.pointer_rules.specs.declared.Run.{Run}
use Rattle.pointer_rules.specs.declared.Taken.{Taken}
use Rattle.pointer_rules.specs.declared.Taken.TheVariants.{AlarmWord, NewData, Resync, Adjusted, Plain, Invalid}
use Rattle.pointer.specs.declared.Rows.{Rows}
use Rattle.pointer.specs.declared.Pointer.{Pointer}
use Rattle.pointer.specs.Machine.{no_rows, rows_after, alarm_word, renewed, new_data, invalid, state_after, wait_after, taken_in, pointer_step, pointer_in_range}

-- ---- the step

pub stepped : (s : Pointer) (top w : ℕ) (run : Run) (t : Taken) (rows : Rows) (state : State) (wait : ℕ)
    → run ≡ run_after s.run top w → t ≡ taken_as s.state run.count s.wait top w → rows ≡ rows_after s.rows t
    → state ≡ state_after s.state rows t → wait ≡ wait_after s.wait state t
    → record { taken = t; pointer = record { state = state; rows = rows; run = run; wait = wait } } ≡ pointer_step s top w
unfolding pointer_step taken_in
stepped s top w run t rows state wait r k o a i = rw (i, a, o, k, r) refl

-- ---- ranges

pub ranges_tested : (top : ℕ) (s : Pointer) (b : Bool) → b ≡ placed top s.state
    → (b && (leb s.rows.alarms 3 && leb s.rows.news 8 && leb s.rows.invalids 8) && (leb s.run.count 3 && leb s.run.value top) && leb s.wait 3)
    ≡ pointer_in_range top s
unfolding pointer_in_range
ranges_tested top s b e = rw e refl

-- ---- the rows

module _ (rows : Rows) (t : Taken) where
  module _ (n : ℕ) where
    pub rows_alarm : t ≡ AlarmWord → n ≡ more rows.alarms 3 → record { alarms = n; news = 0; invalids = 0 } ≡ rows_after rows t
    unfolding rows_after
    rows_alarm h e = rw (h, e) refl

    pub rows_new : (v : ℕ) → t ≡ NewData v → n ≡ more rows.news 8 → record { alarms = 0; news = n; invalids = 0 } ≡ rows_after rows t
    unfolding rows_after
    rows_new v h e = rw (h, e) refl

    pub rows_invalid : t ≡ Invalid → n ≡ more rows.invalids 8 → record { alarms = 0; news = 0; invalids = n } ≡ rows_after rows t
    unfolding rows_after
    rows_invalid h e = rw (h, e) refl

  pub rows_none : ((v : ℕ) × t ≡ Resync v) ⊎ ((a : Adjustment) × (v : ℕ) × t ≡ Adjusted a v) ⊎ (t ≡ Plain) → no_rows ≡ rows_after rows t
  unfolding rows_after
  rows_none (inl h) = rw h.1 refl
  rows_none (inr (inl h)) = rw h.2 refl
  rows_none (inr (inr h)) = rw h refl

-- ---- the state

module _ (state : State) (rows : Rows) (t : Taken) where
  module _ (h : t ≡ AlarmWord) where
    pub state_alarm : 3 ≤ rows.alarms → Alarm ≡ state_after state rows t
    unfolding state_after alarm_word
    state_alarm third = rw (h, le-leb 3 rows.alarms third) refl

    pub state_stays : rows.alarms < 3 → state ≡ state_after state rows t
    unfolding state_after alarm_word
    state_stays early = rw (h, lt-leb 3 rows.alarms early) refl

  module _ (v : ℕ) (h : t ≡ NewData v) where
    module _ (before : ((at : ℕ) × state ≡ Normal at) ⊎ (state ≡ Alarm)) where
      renews : state_after state rows t ≡ renewed rows.news v
      unfolding state_after new_data
      renews = elim before [ inl e ↦ rw (h, e.1) refl | inr e ↦ rw (h, e) refl ]

      pub state_new : rows.news < 8 → Normal v ≡ state_after state rows t
      unfolding renewed
      state_new early = rw (renews, lt-leb 8 rows.news early) refl

      pub state_eighth : 8 ≤ rows.news → Lost ≡ state_after state rows t
      unfolding renewed
      state_eighth eighth = rw (renews, le-leb 8 rows.news eighth) refl

    pub state_lost : state ≡ Lost → Lost ≡ state_after state rows t
    unfolding state_after new_data
    state_lost e = rw (h, e) refl

  pub state_resync : (v : ℕ) → t ≡ Resync v → Normal v ≡ state_after state rows t
  unfolding state_after
  state_resync v h = rw h refl

  pub state_adjusted : (a : Adjustment) (v : ℕ) → t ≡ Adjusted a v → Normal v ≡ state_after state rows t
  unfolding state_after
  state_adjusted a v h = rw h refl

  pub state_plain : t ≡ Plain → state ≡ state_after state rows t
  unfolding state_after
  state_plain h = rw h refl

  module _ (h : t ≡ Invalid) where
    pub state_invalid : 8 ≤ rows.invalids → Lost ≡ state_after state rows t
    unfolding state_after invalid
    state_invalid eighth = rw (h, le-leb 8 rows.invalids eighth) refl

    pub state_kept : rows.invalids < 8 → state ≡ state_after state rows t
    unfolding state_after invalid
    state_kept early = rw (h, lt-leb 8 rows.invalids early) refl

-- ---- the wait

module _ (wait : ℕ) (state : State) where
  pub wait_adjusted : (t : Taken) (a : Adjustment) (v : ℕ) → t ≡ Adjusted a v → 0 ≡ wait_after wait state t
  unfolding wait_after
  wait_adjusted t a v h = rw h refl

  module _ (t : Taken) (v : ℕ) (h : t ≡ NewData v) (in-normal : Bool) (in-normal-is : in-normal ≡ is_normal state) where
    pub wait_new : in-normal ≡ true → 0 ≡ wait_after wait state t
    unfolding wait_after
    wait_new e = rw (h, ← in-normal-is, e) refl

    pub wait_goes_on : (n : ℕ) → n ≡ more wait 3 → in-normal ≡ false → n ≡ wait_after wait state t
    unfolding wait_after
    wait_goes_on n n-is e = rw (h, ← in-normal-is, e) n-is

  pub wait_other : (t : Taken) (n : ℕ) → n ≡ more wait 3 → ((v : ℕ) → t ≡ NewData v → ⊥) → ((a : Adjustment) (v : ℕ) → t ≡ Adjusted a v → ⊥) → n ≡ wait_after wait state t
  unfolding wait_after
  wait_other (NewData v) n n-is new adjusted = absurd (new v refl)
  wait_other (Adjusted a v) n n-is new adjusted = absurd (adjusted a v refl)
  wait_other AlarmWord n n-is new adjusted = n-is
  wait_other (Resync v) n n-is new adjusted = n-is
  wait_other Plain n n-is new adjusted = n-is
  wait_other Invalid n n-is new adjusted = n-is
