-- The pointer's part of settling. From any state of the pointer three words of one value lock it to that value; locked, it takes every word of a unit source
-- as what the source means by it, adjustments too, and no row grows. Assumes nothing.
use mathlib.Core.Path.{◌≡◌, refl, sym, ap}
use mathlib.Core.Bool.{Bool, true, false, cond, ◌&&◌, and-false}
use mathlib.Core.Logic.{◌⊎◌, inl, inr, ⊎_elim}
use Prim.Native.Nat.{ℕ, zero, suc, ◌+◌, ◌-◌, ◌≤◌, ◌<◌, min}
use native.Mathlib.Omega.{arith}
use borrow.Author.Tests.{le-leb, lt-leb, eq-eqb, ne_eqb, le-ltb, eqb-true, eqb-false}
use lib.Bits.{bit_and, bit_xor, xor_lt}
use lib.Count.{ones}
use lib.Dec.{eqb, ltb, leb}
use Rattle.laws.proofs.Bits.{xor_other}
use Rattle.laws.proofs.Tests.{by_test}
use Rattle.counts.specs.Counts.{more, run_on}
use Rattle.word.specs.Word.{normal, good, bits_i, bits_d, inverted, plain_word, inverted_word}
use Rattle.word.proofs.Laws.{value_plain, of_kind_plain, no_alarm_plain, no_new_plain, good_plain, inverted_is, ones_i, ones_d, ones_id, ones_di}
use Rattle.shape.specs.Shape.{offset_after}
use Rattle.shape.specs.declared.Adjustment.{Adjustment}
use Rattle.shape.specs.declared.Adjustment.TheVariants as asked
use Rattle.unit_source.specs.Source.{adjusts, word_sent, source_wait_after}
use Rattle.pointer_rules.specs.Rules.{run_after, elsewhere, adjustment, in_normal, by_state, taken_as, restarts, adjustment_of}
use Rattle.pointer_state.specs.declared.State.{State}
use Rattle.pointer_state.specs.declared.State.TheVariants.{Normal, Alarm, Lost}
use Rattle.pointer_rules.specs.declared.Taken.{Taken}
use Rattle.pointer_rules.specs.declared.Taken.TheVariants.{Resync, Adjusted, Plain, Invalid}
use Rattle.pointer_rules.specs.declared.Run.{Run}
use Rattle.pointer.specs.Machine as machine
use Rattle.pointer.specs.Machine.{no_rows, rows_after, state_after, taken_in, pointer_step}
use Rattle.pointer.specs.Words.{after_word}
use Rattle.pointer.specs.declared.Pointer.{Pointer}
use Rattle.pointer.specs.declared.AfterWord.{AfterWord}
use Rattle.settles_pointer.specs.Meant.{meant}

-- ---- what is carried from unit to unit

-- normal at v; k units or more since the last adjustment or the lock; no row
pub record Locked (v k : ℕ) (p : Pointer) : Type 0 where
  pub state_is : p.state ≡ Normal v
  pub run_is : 0 < k → p.run.value ≡ v
  pub waited : min k 3 ≤ p.wait
  pub rows_are : p.rows ≡ no_rows

-- k words of v have come, one after the other, and before them anything
pub record Nearing (v k : ℕ) (p : Pointer) : Type 0 where
  pub run_is : 0 < k → p.run.value ≡ v
  pub run_long : min k 3 ≤ p.run.count
  pub waited : min (k - 2) 3 ≤ p.wait
  pub locked : 3 ≤ k → Locked v (k - 2) p

-- the word was taken as it was meant, and the pointer is then locked to where it leads, k units after the last adjustment
pub record Follows (top v k : ℕ) (a : Adjustment) (r : AfterWord) : Type 0 where
  pub taken_is : r.taken ≡ meant top a v
  pub locked : Locked (offset_after top a v) k r.pointer

-- nothing has come yet: any pointer
pub nearing_any : (v : ℕ) (p : Pointer) → Nearing v 0 p
nearing_any v p =
    record {
      run_is = λ h. absurd (omega arith);
      run_long = omega arith;
      waited = omega arith;
      locked = λ h. absurd (omega arith);
    }

-- once the wait has passed, how long ago does not matter
pub locked_any : (v k j : ℕ) (p : Pointer) → 3 ≤ k → Locked v k p → Locked v j p
locked_any v k j p g l =
    record {
      state_is = l.state_is;
      run_is = λ _. l.run_is (omega arith);
      waited = omega (arith, l.waited);
      rows_are = l.rows_are;
    }

-- with five words the wait has passed too
pub nearing_locked : (v k j : ℕ) (p : Pointer) → 5 ≤ k → Nearing v k p → Locked v j p
nearing_locked v k j p g n = locked_any v (k - 2) j p (omega arith) (n.locked (omega arith))

-- ---- what is meant

-- no word of a source restarts
pub meant_goes : (top : ℕ) (a : Adjustment) (v : ℕ) → restarts (meant top a v) ≡ false
unfolding restarts meant
meant_goes top asked.Nothing v = refl
meant_goes top asked.Increment v = refl
meant_goes top asked.Decrement v = refl

-- and the adjustment is the one that was asked for
pub meant_adjusts : (top : ℕ) (a : Adjustment) (v : ℕ) → adjustment_of (meant top a v) ≡ a
unfolding adjustment_of meant
meant_adjusts top asked.Nothing v = refl
meant_adjusts top asked.Increment v = refl
meant_adjusts top asked.Decrement v = refl

-- after an adjustment: the offset has moved, and the wait begins
begun : {x : ℕ} {run : Run} → Locked x 0 (record { state = Normal x; rows = no_rows; run = run; wait = 0 })
begun = record { state_is = refl; run_is = λ h. absurd (omega arith); waited = omega arith; rows_are = refl }

module _ (top : ℕ) (small : top < 1024) where
  -- ---- a word of the source, whatever its value x

  module _ (x : ℕ) (h : x < 1024) where
    -- rules 1 and 2 do not apply
    taken_source :
        (state : State) (alike wait : ℕ)
        → taken_as state alike wait top (plain_word x) ≡ cond (leb 3 alike && elsewhere state x) (Resync x) (by_state state wait top (plain_word x))
    unfolding taken_as
    taken_source state alike wait = simp (no_alarm_plain x h, no_new_plain x h top, value_plain x h)

    -- rule 4
    normal_source :
        (at wait : ℕ)
        → in_normal at wait top (plain_word x)
        ≡ cond (eqb x at) Plain (cond (ltb wait 3) Invalid (adjustment top at (inverted bits_i (plain_word x) at) (inverted bits_d (plain_word x) at)))
    unfolding in_normal
    normal_source at wait = simp (of_kind_plain x h, value_plain x h)

  module _ (v : ℕ) (h : v ≤ top) where
    v_small : v < 1024
    v_small = omega arith

    -- a word of v goes on with a run of v, and begins one after any other
    run_plain : (run : Run) → run_after run top (plain_word v) ≡ record { count = run_on (eqb run.value v) run.count 3; value = v }
    unfolding run_after
    run_plain run = simp (good_plain v v_small top h, value_plain v v_small)

    run_value : (run : Run) → (run_after run top (plain_word v)).value ≡ v
    run_value run = ap (λ (r : Run). r.value) (run_plain run)

    -- ---- locked to v: the word of v

    -- it is plain
    taken_plain : (p : Pointer) → p.state ≡ Normal v → taken_in p top (plain_word v) ≡ Plain
    unfolding taken_in elsewhere by_state
    taken_plain p e = simp (taken_source v v_small, e, normal_source v v_small, eq-eqb v v refl, and-false)

    follows_plain : (k : ℕ) (p : Pointer) → Locked v k p → Follows top v (more k 3) asked.Nothing (pointer_step p top (plain_word v))
    unfolding pointer_step rows_after state_after machine.wait_after meant offset_after
    follows_plain k p l =
        rw (taken_plain p l.state_is)
        record {
          taken_is = refl;
          locked = record {
            state_is = l.state_is;
            run_is = λ _. run_value p.run;
            waited = omega (arith, l.waited);
            rows_are = refl;
          };
        }

    -- ---- locked to v, the wait passed: the word with the bits at m inverted

    module _ (m : ℕ) (some : 0 < m) (m-small : m < 1024) where
      x_small : bit_xor v m < 1024
      x_small = xor_lt 10 v m v_small m-small

      -- it is the first of its run
      run_inverted : (run : Run) → run.value ≡ v → (run_after run top (inverted_word m v)).count ≤ 1
      unfolding run_after run_on
      run_inverted run e =
          by_test (λ (r : Run). r.count ≤ 1) (good normal top (inverted_word m v))
          (λ _. rw (value_plain (bit_xor v m) x_small, e, ne_eqb v (bit_xor v m) (λ q. xor_other v m some (sym q))) (omega arith))
          (λ _. omega arith)

      -- so rule 3 does not apply, and rule 4 counts the bits of m
      taken_inverted :
          (k : ℕ) (p : Pointer) → 3 ≤ k → Locked v k p
          → taken_in p top (inverted_word m v) ≡ adjustment top v (ones (bit_and m bits_i)) (ones (bit_and m bits_d))
      unfolding taken_in elsewhere by_state
      taken_inverted k p g l =
          let w = inverted_word m v in
          let r : (run_after p.run top w).count < 3 = omega (arith, run_inverted p.run (l.run_is (omega arith))) in
          let u : 3 ≤ p.wait = omega (arith, l.waited) in
          simp (
            taken_source (bit_xor v m) x_small,
            l.state_is,
            lt-leb 3 (run_after p.run top w).count r,
            normal_source (bit_xor v m) x_small,
            ne_eqb (bit_xor v m) v (xor_other v m some),
            le-ltb p.wait 3 u,
            inverted_is bits_i m v m-small v_small,
            inverted_is bits_d m v m-small v_small,
          )

    -- five I bits inverted and no D bit, and the mirror case
    adjustment_i : adjustment top v (ones (bit_and bits_i bits_i)) (ones (bit_and bits_i bits_d)) ≡ Adjusted asked.Increment (offset_after top asked.Increment v)
    unfolding adjustment
    adjustment_i = rw (ones_i, ones_id)

    adjustment_d : adjustment top v (ones (bit_and bits_d bits_i)) (ones (bit_and bits_d bits_d)) ≡ Adjusted asked.Decrement (offset_after top asked.Decrement v)
    unfolding adjustment
    adjustment_d = rw (ones_di, ones_d)

    -- with the I bits it is an increment
    follows_up : (k : ℕ) (p : Pointer) → 3 ≤ k → Locked v k p → Follows top v 0 asked.Increment (pointer_step p top (inverted_word bits_i v))
    unfolding pointer_step rows_after state_after machine.wait_after meant
    follows_up k p g l = rw (taken_inverted bits_i (omega arith) (omega arith) k p g l, adjustment_i) (record { taken_is = refl; locked = begun })

    -- with the D bits a decrement
    follows_down : (k : ℕ) (p : Pointer) → 3 ≤ k → Locked v k p → Follows top v 0 asked.Decrement (pointer_step p top (inverted_word bits_d v))
    unfolding pointer_step rows_after state_after machine.wait_after meant
    follows_down k p g l = rw (taken_inverted bits_d (omega arith) (omega arith) k p g l, adjustment_d) (record { taken_is = refl; locked = begun })

    -- ---- any state: the word of v, the third of its run or later

    -- rule 3 applies, or the pointer is at v already
    abbrev Third : State → Taken → Type 0
    Third state t = (t ≡ Resync v) ⊎ ((t ≡ Plain) × (state ≡ Normal v))

    taken_third : (state : State) (alike wait : ℕ) → 3 ≤ alike → Third state (taken_as state alike wait top (plain_word v))
    unfolding elsewhere by_state
    taken_third (Normal at) alike wait a = go (eqb v at) refl
      where
        go : (b : Bool) → eqb v at ≡ b → Third (Normal at) (taken_as (Normal at) alike wait top (plain_word v))
        go true e = inr (simp (taken_source v v_small, normal_source v v_small, e, and-false), ap Normal (sym (eqb-true v at e)))
        go false e = inl (simp (taken_source v v_small, e, le-leb 3 alike a))
    taken_third Alarm alike wait a = inl (simp (taken_source v v_small, le-leb 3 alike a))
    taken_third Lost alike wait a = inl (simp (taken_source v v_small, le-leb 3 alike a))

    -- either way it is then normal at v, with no row
    next_third :
        (p : Pointer) → 3 ≤ (run_after p.run top (plain_word v)).count
        → after_word p top (plain_word v) ≡ record { state = Normal v; rows = no_rows; run = run_after p.run top (plain_word v); wait = more p.wait 3 }
    unfolding pointer_step taken_in rows_after state_after machine.wait_after
    next_third p a =
        ⊎_elim (λ e. rw e) (λ e. rw (e.0, e.1)) (taken_third p.state (run_after p.run top (plain_word v)).count p.wait a)

    -- ---- k words of v

    -- the run with one more word of v in it
    run_nearing : (k : ℕ) (p : Pointer) → Nearing v k p → min (k + 1) 3 ≤ (run_after p.run top (plain_word v)).count
    unfolding run_on
    run_nearing k p n =
        rw (run_plain p.run)
        (by_test (λ (c : ℕ). min (k + 1) 3 ≤ c) (eqb p.run.value v) (λ _. omega (arith, n.run_long)) (first k n.run_is))
      where
        first : (j : ℕ) → (0 < j → p.run.value ≡ v) → eqb p.run.value v ≡ false → min (j + 1) 3 ≤ 1
        first zero i e = omega arith
        first (suc j) i e = absurd (eqb-false p.run.value v e (i (omega arith)))

    -- the wait goes on from the third word
    wait_nearing : (k : ℕ) (p : Pointer) → Nearing v k p → min (k + 1 - 2) 3 ≤ (after_word p top (plain_word v)).wait
    wait_nearing zero p n = omega arith
    wait_nearing (suc zero) p n = omega arith
    wait_nearing (suc (suc k)) p n = rw (next_third p (omega (arith, run_nearing (suc (suc k)) p n))) (omega (arith, n.waited))

    -- one word of v more
    pub nearing_plain : (k : ℕ) (p : Pointer) → Nearing v k p → Nearing v (k + 1) (after_word p top (plain_word v))
    unfolding pointer_step
    nearing_plain k p n =
        record {
          run_is = λ _. run_value p.run;
          run_long = run_nearing k p n;
          waited = wait_nearing k p n;
          locked = λ g.
              rw (next_third p (omega (arith, run_nearing k p n)))
              record {
                state_is = refl;
                run_is = λ _. run_value p.run;
                waited = omega (arith, n.waited);
                rows_are = refl;
              };
        }

    -- From the third word on, rule 3 leads to v, or the pointer was there and the word is plain.
    pub third :
        (k : ℕ) (p : Pointer) → 2 ≤ k → Nearing v k p
        → ((pointer_step p top (plain_word v)).taken ≡ Resync v) ⊎ (((pointer_step p top (plain_word v)).taken ≡ Plain) × (p.state ≡ Normal v))
    unfolding pointer_step taken_in
    third k p g n = taken_third p.state (run_after p.run top (plain_word v)).count p.wait (omega (arith, run_nearing k p n))

  -- ---- THE SOURCE IS FOLLOWED: locked, the pointer takes the word of any unit as it was meant, and is then locked to where it leads.
  pub follows :
      (a : Adjustment) (v : ℕ) → v ≤ top → (k : ℕ) (p : Pointer) → (adjusts a ≡ true → 3 ≤ k) → Locked v k p
      → Follows top v (source_wait_after a k) a (pointer_step p top (word_sent a v))
  unfolding adjusts word_sent source_wait_after
  follows asked.Nothing v h k p g l = follows_plain v h k p l
  follows asked.Increment v h k p g l = follows_up v h k p (g refl) l
  follows asked.Decrement v h k p g l = follows_down v h k p (g refl) l
