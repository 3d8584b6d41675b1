-- What each test of a call decides, what a call that is done has shown, and the two ends of `make`. Assumes nothing.
use mathlib.Core.Path.{◌≡◌, refl, sym, ap, ◌∙◌}
use mathlib.Core.Bool.{Bool, true, false, ◌&&◌, ◌||◌, not}
use mathlib.Core.List.{List}
use Prim.Native.Nat.{ℕ, ◌≤◌}
use lib.Dec.{eqb, ltb}
use lib.ListN.{length}
use borrow.Author.Tests.{ltb-false, le-ltb, eqb-true, eq-eqb, ne_eqb, not-false}
use Rattle.laws.proofs.Tests.{or_false}
use Rattle.refusals.specs.Refusals.{due, number_of, says, answer_says, answer_of}
use Rattle.refusals.proofs.Wrong.{due_none, due_false, none_wrong, outcome_done, outcome_refused, Numbered, numbered_row, numbered_last, outcome_said}
use Rattle.refusals.specs.declared.Refusal.{Refusal}
use Rattle.refusals.specs.declared.Refusal.TheVariants as wrong
use Rattle.std.specs.Prelude.{Result, Ok, Err, ⊤}
use Rattle.shape.specs.Shape.{Shape, unit_length, offset_after, ended_by}
use Rattle.shape.specs.declared.Adjustment.{Adjustment}
use Rattle.unit_source.specs.Source.{adjusts, source_out_of_range, make_faults, unit_sent, source_wait_after, unit_source_after, Made, made_by, MadeOutcome, unit_source, MakesAs, Makes}
use Rattle.unit_source.specs.Inner.{Ready}
use Rattle.unit_source.specs.declared.State.{State}

-- ---- the order of the tests

module _ (s : Shape) (state : State) (a : Adjustment) (current next unit : ℕ) (out : Bool) (out-is : out ≡ source_out_of_range s.top state) where
  pub wrong_state : out ≡ true → Err wrong.State ≡ answer_of (make_faults s state a current next unit)
  unfolding make_faults due answer_of
  wrong_state h = rw (← out-is, h) refl

  module _ (in_range : out ≡ false) where
    pub wrong_container : (not (eqb current s.size) || not (eqb next s.size)) ≡ true → Err wrong.Container ≡ answer_of (make_faults s state a current next unit)
    unfolding make_faults due answer_of
    wrong_container h = rw (← out-is, in_range, h) refl

    module _ (both : (not (eqb current s.size) || not (eqb next s.size)) ≡ false) where
      pub wrong_unit : (whole : ℕ) → whole ≡ unit_length s → (unit ≡ whole → ⊥) → Err wrong.Unit ≡ answer_of (make_faults s state a current next unit)
      unfolding make_faults due answer_of
      wrong_unit whole w h = rw (← out-is, in_range, both, ne_eqb unit (unit_length s) (rw w at h)) refl

      module _ (whole : ℕ) (whole_is : whole ≡ unit_length s) (unit_whole : unit ≡ whole) (asked : Bool) (Asked-is : asked ≡ adjusts a) where
        pub wrong_adjustment : (asked && ltb state.wait 3) ≡ true → Err wrong.Adjustment ≡ answer_of (make_faults s state a current next unit)
        unfolding make_faults due answer_of
        wrong_adjustment h = rw (← out-is, in_range, both, eq-eqb unit (unit_length s) (unit_whole ∙ whole_is), ← Asked-is, h) refl

        pub nothing_wrong : (asked && ltb state.wait 3) ≡ false → Ok tt ≡ answer_of (make_faults s state a current next unit)
        unfolding make_faults due answer_of
        nothing_wrong h = rw (← out-is, in_range, both, eq-eqb unit (unit_length s) (unit_whole ∙ whole_is), ← Asked-is, h) refl

-- ---- a call is done exactly if no row of the table applies

-- no row of the table applies
pub record Makable (s : Shape) (state : State) (a : Adjustment) (current next unit : ℕ) : Type 0 where
  pub ready : Ready s state.offset current next unit
  pub wait_low : state.wait ≤ 3
  pub free : adjusts a ≡ true → 3 ≤ state.wait

module _ (s : Shape) (state : State) (a : Adjustment) (current next unit : ℕ) where
  pub makable : answer_of (make_faults s state a current next unit) ≡ Ok tt → Makable s state a current next unit
  unfolding make_faults source_out_of_range
  makable e =
      let w = none_wrong (make_faults s state a current next unit) e in
      let p = due_none (source_out_of_range s.top state) _ _ w in
      let q = due_none (not (eqb current s.size) || not (eqb next s.size)) _ _ p.1 in
      let r = due_none (not (eqb unit (unit_length s))) _ _ q.1 in
      let late = due_false (adjusts a && ltb state.wait 3) _ r.1 in
      let range = or_false (ltb s.top state.offset) (ltb 3 state.wait) p.0 in
      let both = or_false (not (eqb current s.size)) (not (eqb next s.size)) q.0 in
      record {
        ready =
            record {
              offset_low = ltb-false s.top state.offset range.0;
              current_is = eqb-true current s.size (not-false (eqb current s.size) both.0);
              next_is = eqb-true next s.size (not-false (eqb next s.size) both.1);
              unit_is = eqb-true unit (unit_length s) (not-false (eqb unit (unit_length s)) r.0);
            };
        wait_low = ltb-false 3 state.wait range.1;
        free = λ h. ltb-false state.wait 3 (rw h at late);
      }

  pub not_refused : Makable s state a current next unit → answer_of (make_faults s state a current next unit) ≡ Ok tt
  unfolding make_faults source_out_of_range due answer_of
  not_refused h =
      let r = h.ready in
      let late : (adjusts a && ltb state.wait 3) ≡ false = soon (adjusts a) h.free in
      simp (le-ltb s.top state.offset r.offset_low, le-ltb 3 state.wait h.wait_low, eq-eqb current s.size r.current_is, eq-eqb next s.size r.next_is, eq-eqb unit (unit_length s) r.unit_is, late)
    where
      soon : (b : Bool) → (b ≡ true → 3 ≤ state.wait) → (b && ltb state.wait 3) ≡ false
      soon false f = refl
      soon true f = le-ltb state.wait 3 (f refl)

-- ---- what a call leaves

module _ (s : Shape) (state : State) (a : Adjustment) (current next before : List ℕ) where
  pub source_done : answer_of (make_faults s state a (length current) (length next) (length before)) ≡ Ok tt
      → unit_source s state a current next before
      ≡ record { made = record { answer = Ok tt; ended = ended_by a state.offset; state = unit_source_after s a state }; unit = unit_sent s a state.offset current next }
  unfolding unit_source
  source_done e = outcome_done (make_faults s state a (length current) (length next) (length before)) _ _ e

  pub source_refused : (x : Refusal) → answer_of (make_faults s state a (length current) (length next) (length before)) ≡ Err x
      → unit_source s state a current next before ≡ record { made = record { answer = Err x; ended = 0; state = state }; unit = before }
  unfolding unit_source
  source_refused x e = outcome_refused (make_faults s state a (length current) (length next) (length before)) _ _ x e

-- ---- what `make` has to show: where it writes, and at its two ends

module _ (s : Shape) (state : State) (a : Adjustment) (current next before : List ℕ) (r : Result ⊤ Refusal) (r-is : r ≡ answer_of (make_faults s state a (length current) (length next) (length before))) where
  pub made_ready : r ≡ Ok tt → Ready s state.offset (length current) (length next) (length before)
  made_ready h = (makable s state a (length current) (length next) (length before) (sym r-is ∙ h)).ready

  pub made_refused : (x : Refusal) → r ≡ Err x → MakesAs s state a current next before (made_by (Err x) state) before
  unfolding made_by
  made_refused x h = sym (source_refused s state a current next before x (sym r-is ∙ h))

  pub made_done : (ended offset wait : ℕ) (after : List ℕ) → r ≡ Ok tt → ended ≡ ended_by a state.offset → offset ≡ offset_after s.top a state.offset → wait ≡ source_wait_after a state.wait
      → after ≡ unit_sent s a state.offset current next
      → MakesAs s state a current next before (made_by (Ok ended) (record { offset = offset; wait = wait })) after
  unfolding unit_source_after made_by
  made_done ended offset wait after h e o w u = rw (e, o, w, u) (sym (source_done s state a current next before (sym r-is ∙ h)))

-- each row has its case's number
pub make_numbered : (s : Shape) (state : State) (a : Adjustment) (current next unit : ℕ) → Numbered says (make_faults s state a current next unit)
unfolding make_faults says number_of
make_numbered s state a current next unit = search (numbered_row, numbered_last)

-- so the answer says the table's
pub make_said : (s : Shape) (state : State) (a : Adjustment) (current next before after : List ℕ) (m : Made) → MakesAs s state a current next before m after → Makes s state a current next before m after
unfolding unit_source
make_said s state a current next before after m h =
    let n = make_numbered s state a (length current) (length next) (length before) in
    record {
      number_is = ap (λ (o : MadeOutcome). answer_says o.made.answer) h ∙ outcome_said (λ (o : MadeOutcome). o.made.answer) _ _ _ n refl (λ x. refl);
      outcome_is = h;
    }

-- the entry point fixes the shape
pub makes_at : (s t : Shape) (state : State) (a : Adjustment) (current next before after : List ℕ) (m : Made) → s ≡ t → MakesAs s state a current next before m after → Makes t state a current next before m after
makes_at s t state a current next before after m e h = make_said t state a current next before after m (rw (← e) h)
