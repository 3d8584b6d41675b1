-- Which rows of requests are done to their end: those whose adjustments lie far enough apart, and no others. Assumes nothing.
use mathlib.Core.Path.{◌≡◌, refl, sym, ap, ◌∙◌}
use mathlib.Core.Bool.{Bool, true, false, ◌&&◌, ◌||◌, not, true≢false}
use mathlib.Core.List.{List, [], ◌∷◌}
use Prim.Native.Nat.{ℕ, ◌≤◌, ◌+◌}
use native.Mathlib.Omega.{arith}
use lib.Dec.{eqb, ltb}
use lib.ListN.{length, length-append, length-take, length-drop}
use borrow.Author.Tests.{ltb-false, le-ltb, eq-eqb}
use Rattle.refusals.specs.declared.Refusal.TheVariants as wrong
use Rattle.std.specs.Prelude.{Ok}
use Rattle.shape.specs.Shape.{Shape, Fit, unit_length, run_from, ended_by}
use Rattle.shape.specs.declared.Adjustment.{Adjustment}
use Rattle.shape.specs.declared.Adjustment.TheVariants.{Nothing, Increment, Decrement}
use Rattle.shape.proofs.Offsets.{after_low, held_low, run_begins}
use Rattle.unit.specs.Unit.{run_of}
use Rattle.unit.proofs.Writing.{length_head}
use Rattle.unit_source.specs.Source.{MadeOutcome, adjusts, source_out_of_range, word_sent, unit_sent, source_wait_after, unit_source_after}
use Rattle.unit_source.specs.Inner.{Ready}
use Rattle.unit_source.proofs.Answers.{not_refused, wrong_adjustment, source_done, source_refused}
use Rattle.unit_source_theorems.specs.Sending.{Sending, unit_source_called, sending_after}
use Rattle.unit_source_theorems.specs.Stream.{is_done, all_done, spaced}

-- a source that any unit can be asked of: its numbers in range, its containers and the lent unit of the right lengths
pub record Fine (s : Shape) (box : ℕ → List ℕ) (x : Sending) : Type 0 where
  pub offset_low : x.state.offset ≤ s.top
  pub wait_low : x.state.wait ≤ 3
  pub full : (i : ℕ) → length (box i) ≡ s.size
  pub unit_is : length x.unit ≡ unit_length s

late_enough : (b : Bool) (wait : ℕ) → (b && ltb wait 3) ≡ false → b ≡ true → 3 ≤ wait
late_enough true wait e h = ltb-false wait 3 e
late_enough false wait e h = absurd (true≢false (sym h))

pub wait_stops : (a : Adjustment) (wait : ℕ) → source_wait_after a wait ≤ 3
unfolding source_wait_after
wait_stops Nothing wait = omega arith
wait_stops Increment wait = omega arith
wait_stops Decrement wait = omega arith

module _ (s : Shape) (f : Fit s) (box : ℕ → List ℕ) where
  -- a unit that is written has its length
  pub unit_long : (x : Sending) (a : Adjustment) → Fine s box x → length (unit_sent s a x.state.offset (box x.number) (box (x.number + 1))) ≡ unit_length s
  unfolding unit_sent run_of
  unit_long x a h =
      let b = run_begins s.step a in
      let head = length_head s.step (word_sent a x.state.offset) (run_from s.step a) f.some b.behind in
      simp (length-append, head, length-take, length-drop)
      (omega (arith, b.behind, b.before, f.two, held_low s x.state.offset f, h.full x.number, h.full (x.number + 1)))

  -- a call whose adjustment does not come too soon is done
  pub call_done : (x : Sending) (a : Adjustment) → Fine s box x → (adjusts a && ltb x.state.wait 3) ≡ false
      → unit_source_called s box x a ≡ record { made = record { answer = Ok tt; ended = ended_by a x.state.offset; state = unit_source_after s a x.state }; unit = unit_sent s a x.state.offset (box x.number) (box (x.number + 1)) }
  call_done x a h e =
      let ready : Ready s x.state.offset (length (box x.number)) (length (box (x.number + 1))) (length x.unit) = record { offset_low = h.offset_low; current_is = h.full x.number; next_is = h.full (x.number + 1); unit_is = h.unit_is } in
      source_done s x.state a (box x.number) (box (x.number + 1)) x.unit
      (not_refused s x.state a (length (box x.number)) (length (box (x.number + 1))) (length x.unit)
      (record { ready = ready; wait_low = h.wait_low; free = late_enough (adjusts a) x.state.wait e }))

  done_done : (x : Sending) (a : Adjustment) → Fine s box x → (adjusts a && ltb x.state.wait 3) ≡ false → is_done (unit_source_called s box x a).made.answer ≡ true
  unfolding is_done
  done_done x a h e = ap (λ (o : MadeOutcome). is_done o.made.answer) (call_done x a h e)

  after_wait : (x : Sending) (a : Adjustment) → Fine s box x → (adjusts a && ltb x.state.wait 3) ≡ false → (sending_after s box x a).state.wait ≡ source_wait_after a x.state.wait
  unfolding sending_after unit_source_after
  after_wait x a h e = ap (λ (o : MadeOutcome). o.made.state.wait) (call_done x a h e)

  -- and one whose adjustment does is refused
  call_late : (x : Sending) (a : Adjustment) → Fine s box x → (adjusts a && ltb x.state.wait 3) ≡ true → is_done (unit_source_called s box x a).made.answer ≡ false
  unfolding is_done source_out_of_range
  call_late x a h e =
      let l = length (box x.number) in
      let m = length (box (x.number + 1)) in
      let range : source_out_of_range s.top x.state ≡ false = simp (le-ltb s.top x.state.offset h.offset_low, le-ltb 3 x.state.wait h.wait_low) in
      let both : (not (eqb l s.size) || not (eqb m s.size)) ≡ false = simp (eq-eqb l s.size (h.full x.number), eq-eqb m s.size (h.full (x.number + 1))) in
      let r = wrong_adjustment s x.state a l m (length x.unit) (source_out_of_range s.top x.state) refl range both _ refl h.unit_is (adjusts a) refl e in
      ap (λ (o : MadeOutcome). is_done o.made.answer) (source_refused s x.state a (box x.number) (box (x.number + 1)) x.unit wrong.Adjustment (sym r))

  pub fine_after : (x : Sending) (a : Adjustment) → Fine s box x → (adjusts a && ltb x.state.wait 3) ≡ false → Fine s box (sending_after s box x a)
  unfolding sending_after unit_source_after
  fine_after x a h e =
      rw (call_done x a h e)
      (record { offset_low = after_low s.top a x.state.offset h.offset_low; wait_low = wait_stops a x.state.wait; full = h.full; unit_is = unit_long x a h })

  -- ---- A row is done to its end exactly if its adjustments are far enough apart.
  pub done_exactly : (x : Sending) (row : List Adjustment) → Fine s box x → all_done s box x row ≡ spaced x.state.wait row
  unfolding all_done spaced
  done_exactly x [] h = refl
  done_exactly x (a ∷ row) h = go (adjusts a && ltb x.state.wait 3) refl (done_exactly (sending_after s box x a) row)
    where
      go : (b : Bool) → (adjusts a && ltb x.state.wait 3) ≡ b → (Fine s box (sending_after s box x a) → all_done s box (sending_after s box x a) row ≡ spaced (sending_after s box x a).state.wait row)
          → (is_done (unit_source_called s box x a).made.answer && all_done s box (sending_after s box x a) row) ≡ (not (adjusts a && ltb x.state.wait 3) && spaced (source_wait_after a x.state.wait) row)
      go true e rest = rw (e, call_late x a h e) refl
      go false e rest =
          let done : is_done (unit_source_called s box x a).made.answer ≡ true = done_done x a h e in
          let wait : (sending_after s box x a).state.wait ≡ source_wait_after a x.state.wait = after_wait x a h e in
          let tail : all_done s box (sending_after s box x a) row ≡ spaced (source_wait_after a x.state.wait) row = rest (fine_after x a h e) ∙ ap (λ (w : ℕ). spaced w row) wait in
          rw (e, done) tail
