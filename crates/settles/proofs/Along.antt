-- A run of any containers of the right length, unit after unit: the pointer locks to the source's offset and follows it, no call is refused, and from the fourth unit on
-- each unit hands back what the source says ended. Nothing is asked of what the containers hold. Assumes nothing.
use mathlib.Core.Path.{◌≡◌, refl, sym, ap, ◌∙◌}
use mathlib.Core.Bool.{Bool, true, false, ◌&&◌, true≢false}
use mathlib.Core.Logic.{⊎_elim}
use Prim.Native.Nat.{ℕ, zero, suc, ◌+◌, ◌-◌, ◌≤◌, ◌<◌}
use native.Mathlib.Numerals.{add-one}
use native.Mathlib.Omega.{arith}
use lib.Dec.{ltb}
use lib.ListN.{take}
use borrow.Author.Tests.{ltb-true, ltb-false, le-ltb}
use Rattle.counts.specs.Counts.{more}
use Rattle.shape.specs.Shape.{Shape, Fit, held_count, offset_after, ended_by}
use Rattle.shape.specs.declared.Adjustment.{Adjustment}
use Rattle.shape.specs.declared.Adjustment.TheVariants.{Nothing, Increment, Decrement}
use Rattle.unit_source.specs.Source as unit-source
use Rattle.unit_source.specs.Source.{adjusts, source_wait_after, word_sent}
use Rattle.pointer_state.specs.declared.State.TheVariants.{Normal}
use Rattle.pointer.specs.Machine.{pointer_step}
use Rattle.settles_pointer.specs.Meant.{meant}
use Rattle.settles_pointer.proofs.Locks.{Locked, Nearing, nearing_any, nearing_plain, nearing_locked, third, follows}
use Rattle.settles.specs.Demand.{Run, Path, Spaced, path_after, path_at}
use Rattle.settles.proofs.Units.{Ready, Settable, source_after_lem, ready_after, pointer_after, held_goes, held_restarts}

-- Five plain units are enough for the pointer: three lock it, and in two more the wait has passed.
abbrev pub five : ℕ
five = 5

-- what is asked of a run for that: settings that no number refuses, both ends able to be called, and requests that are spaced
pub record Runs (s : Shape) (r : Run) : Type 0 where
  pub fit : Fit s
  pub set : Settable r
  pub ready : Ready s r (path_at s r 0)
  pub spaced : Spaced five r.ask

-- how far it has come, n units after its begin
pub record Along (s : Shape) (r : Run) (n : ℕ) (x : Path) : Type 0 where
  pub ready : Ready s r x
  -- the source's wait counts the plain units before
  pub waited : (j : ℕ) → j ≤ 3 → j ≤ n → ((i : ℕ) → n ≤ i + j → i < n → adjusts (r.ask i) ≡ false) → j ≤ x.source.state.wait
  pub nearing : n ≤ five → Nearing x.source.state.offset n x.state.pointer
  pub locked : five ≤ n → Locked x.source.state.offset x.source.state.wait x.state.pointer
  -- what is held is what was sent of the current container
  pub together : 3 ≤ n → take (held_count s x.source.state.offset) x.held ≡ take (held_count s x.source.state.offset) (r.box x.source.number)

-- the word of a unit is taken as it was meant, by a sink that stands at the source's offset
pub record Meets (s : Shape) (x : Path) (a : Adjustment) : Type 0 where
  pub was : x.state.pointer.state ≡ Normal x.source.state.offset
  pub taken_is : (pointer_step x.state.pointer s.top (word_sent a x.source.state.offset)).taken ≡ meant s.top a x.source.state.offset
  pub now : (pointer_step x.state.pointer s.top (word_sent a x.source.state.offset)).pointer.state ≡ Normal (offset_after s.top a x.source.state.offset)

plain_wait : (a : Adjustment) (wait : ℕ) → adjusts a ≡ false → source_wait_after a wait ≡ more wait 3
unfolding adjusts source_wait_after
plain_wait Nothing wait e = refl
plain_wait Increment wait e = absurd (true≢false e)
plain_wait Decrement wait e = absurd (true≢false e)

module _ (s : Shape) (r : Run) (u : Runs s r) where
  small : s.top < 1024
  small = u.fit.ten

  not_early : (n : ℕ) → adjusts (r.ask n) ≡ true → five ≤ n
  unfolding adjusts
  not_early n e = go (ltb n five) refl
    where
      no : n < five → ⊥
      no l = true≢false (sym e ∙ ap adjusts (u.spaced.quiet n (omega arith)))

      go : (b : Bool) → ltb n five ≡ b → five ≤ n
      go true q = absurd (no (ltb-true n five q))
      go false q = ltb-false n five q

  -- the third word of one value, or a later one: by rule 3, or as a plain one at the offset already held
  third_together : (n : ℕ) (x : Path) (h : Ready s r x) (late : (adjusts Nothing && ltb x.source.state.wait 3) ≡ false) → 2 ≤ n
      → Nearing x.source.state.offset n x.state.pointer
      → take (held_count s x.source.state.offset) (path_after s r x Nothing).held ≡ take (held_count s x.source.state.offset) (r.box (x.source.number + 1))
  unfolding word_sent offset_after ended_by meant
  third_together n x h late w near =
      let v = x.source.state.offset in
      let low = h.source_fine.offset_low in
      let now = ((nearing_plain s.top small v low n x.state.pointer near).locked (omega arith)).state_is in
      ⊎_elim
      (λ e. held_restarts s u.fit r u.set x h late e now)
      (λ e. held_goes s u.fit r u.set x Nothing h late e.1 e.0 now)
      (third s.top small v low n x.state.pointer w near)

  module _ (n : ℕ) (x : Path) (h : Along s r n x) where
    -- "at least three plain units between"
    late_enough : adjusts (r.ask n) ≡ true → 3 ≤ x.source.state.wait
    late_enough e = h.waited 3 (omega arith) (omega (arith, not_early n e)) plain
      where
        plain : (i : ℕ) → n ≤ i + 3 → i < n → adjusts (r.ask i) ≡ false
        plain i lo hi = go (adjusts (r.ask i)) refl
          where
            go : (b : Bool) → adjusts (r.ask i) ≡ b → adjusts (r.ask i) ≡ false
            go true q = absurd (omega (arith, u.spaced.apart i n hi q e))
            go false q = q

    pub late : (adjusts (r.ask n) && ltb x.source.state.wait 3) ≡ false
    late = go (adjusts (r.ask n)) refl
      where
        go : (b : Bool) → adjusts (r.ask n) ≡ b → (b && ltb x.source.state.wait 3) ≡ false
        go true q = le-ltb x.source.state.wait 3 (late_enough q)
        go false q = refl

    -- locked: how many units since the last adjustment does not matter here
    met : (k : ℕ) → (adjusts (r.ask n) ≡ true → 3 ≤ k) → Locked x.source.state.offset k x.state.pointer → Meets s x (r.ask n)
    met k g l =
        let v = x.source.state.offset in
        let m = follows s.top small (r.ask n) v h.ready.source_fine.offset_low k x.state.pointer g l in
        record { was = l.state_is; taken_is = m.taken_is; now = m.locked.state_is }

    -- from the fourth unit on
    pub meets : 3 ≤ n → Meets s x (r.ask n)
    meets w = go (ltb n five) refl
      where
        go : (b : Bool) → ltb n five ≡ b → Meets s x (r.ask n)
        go true q = met (n - 2) (λ e. absurd (omega (arith, ltb-true n five q, not_early n e))) ((h.nearing (omega (arith, ltb-true n five q))).locked w)
        go false q = met x.source.state.wait late_enough (h.locked (ltb-false n five q))

    -- ---- one unit

    abbrev y : Path
    y = path_after s r x (r.ask n)

    pub offset_is : y.source.state.offset ≡ offset_after s.top (r.ask n) x.source.state.offset
    unfolding unit-source.unit_source_after
    offset_is = rw (source_after_lem s u.fit r u.set x (r.ask n) h.ready late)

    wait_is : y.source.state.wait ≡ source_wait_after (r.ask n) x.source.state.wait
    unfolding unit-source.unit_source_after
    wait_is = rw (source_after_lem s u.fit r u.set x (r.ask n) h.ready late)

    pub number_is : y.source.number ≡ x.source.number + ended_by (r.ask n) x.source.state.offset
    number_is = rw (source_after_lem s u.fit r u.set x (r.ask n) h.ready late)

    waited_on : (j : ℕ) → j ≤ 3 → j ≤ suc n → ((i : ℕ) → suc n ≤ i + j → i < suc n → adjusts (r.ask i) ≡ false) → j ≤ y.source.state.wait
    waited_on zero a b plain = omega arith
    waited_on (suc j) a b plain =
        let w = h.waited j (omega arith) (omega arith) (λ i lo hi. plain i (omega arith) (omega arith)) in
        let p = plain_wait (r.ask n) x.source.state.wait (plain n (omega arith) (omega arith)) in
        rw (wait_is, p) (omega arith)

    -- one of the first five: a plain unit
    module _ (early : n < five) where
      nothing : r.ask n ≡ Nothing
      nothing = u.spaced.quiet n (omega arith)

      nearing_on : Nearing y.source.state.offset (suc n) y.state.pointer
      unfolding offset_after word_sent
      nearing_on =
          rw (offset_is, pointer_after s u.fit r u.set x (r.ask n) h.ready late, nothing, ← (add-one n))
          (nearing_plain s.top small x.source.state.offset h.ready.source_fine.offset_low n x.state.pointer (h.nearing (omega arith)))

      together_early : 2 ≤ n → take (held_count s y.source.state.offset) y.held ≡ take (held_count s y.source.state.offset) (r.box y.source.number)
      unfolding offset_after ended_by
      together_early w =
          rw (offset_is, number_is, nothing) (third_together n x h.ready (rw nothing at late) w (h.nearing (omega arith)))

    -- a later one
    module _ (later : five ≤ n) where
      locked_on : Locked y.source.state.offset y.source.state.wait y.state.pointer
      locked_on =
          rw (offset_is, wait_is, pointer_after s u.fit r u.set x (r.ask n) h.ready late)
          (follows s.top small (r.ask n) x.source.state.offset h.ready.source_fine.offset_low x.source.state.wait x.state.pointer late_enough (h.locked later)).locked

      together_later : take (held_count s y.source.state.offset) y.held ≡ take (held_count s y.source.state.offset) (r.box y.source.number)
      together_later =
          let m = meets (omega arith) in
          rw (offset_is, number_is) (held_goes s u.fit r u.set x (r.ask n) h.ready late m.was m.taken_is m.now)

    pub along_on : Along s r (suc n) y
    along_on = go (ltb n five) refl
      where
        go : (b : Bool) → ltb n five ≡ b → Along s r (suc n) y
        go true q =
            let early = ltb-true n five q in
            record {
              ready = ready_after s u.fit r u.set x (r.ask n) h.ready late;
              waited = waited_on;
              nearing = λ _. nearing_on early;
              locked = λ e. nearing_locked y.source.state.offset (suc n) y.source.state.wait y.state.pointer (omega arith) (nearing_on early);
              together = λ w. together_early early (omega arith);
            }
        go false q =
            let later = ltb-false n five q in
            record {
              ready = ready_after s u.fit r u.set x (r.ask n) h.ready late;
              waited = waited_on;
              nearing = λ e. absurd (omega arith);
              locked = λ _. locked_on later;
              together = λ _. together_later later;
            }

  -- ALONG THE RUN, after every unit
  pub along : (n : ℕ) → Along s r n (path_at s r n)
  unfolding path_at
  along zero =
      record {
        ready = u.ready;
        waited = λ j a b plain. omega arith;
        nearing = λ _. nearing_any r.source.offset r.state.pointer;
        locked = λ e. absurd (omega arith);
        together = λ e. absurd (omega arith);
      }
  along (suc n) = along_on n (path_at s r n) (along n)
