-- What a call hands back, by its answer and the view, is what the cut says ended in the unit; nothing without a normal state, nothing where it refuses. Assumes nothing.
use mathlib.Core.Path.{◌≡◌, refl, sym, ap, ap₂, ◌∙◌}
use mathlib.Core.Bool.{Bool, true, false, cond}
use mathlib.Core.List.{List, [], ◌++◌}
use Prim.Native.Nat.{ℕ, ◌+◌, ◌≤◌}
use lib.ListN.{length}
use Rattle.refusals.specs.declared.Refusal.{Refusal}
use Rattle.std.specs.Prelude.{Ok, Err}
use Rattle.refusals.proofs.Wrong.{outcome_done, outcome_by}
use Rattle.shape.specs.Shape.{Shape, Fit}
use Rattle.pointer_state.specs.State.{is_normal, offset_of}
use Rattle.pointer.specs.declared.AfterWord.{AfterWord}
use Rattle.cut.specs.Cut.{completed_of, inside_part, one_if, ended_of, done_of}
use Rattle.cut.specs.declared.Cut.{Cut}
use Rattle.cut.proofs.Within.{inside_fits}
use Rattle.cut.proofs.Outcome.{done_length}
use Rattle.view.specs.View.{part_of, in_order}
use Rattle.view.proofs.Parts.{part_whole, part_fits}
use Rattle.receiving.specs.Receiving.{begin_in, cut_in, ended_in, both_seen, received_normal, silence}
use Rattle.receiving.specs.Inner.{Receivable}
use Rattle.sink.specs.Sink.{ReceivedOutcome, pointed, unit_outcome, told, refusing, sink}
use Rattle.sink.specs.Inner.{Fed}
use Rattle.sink.specs.declared.State.{State}
use Rattle.sink.proofs.Refuses.{fed}
use Rattle.sink.proofs.Feeds.{receivable}
use Rattle.sink_theorems.specs.Reach.{SinkCall, sink_called, handed}
use Rattle.sink_theorems.proofs.Refused.{faults, answer_is, done_not_refused}

-- ---- the parts of a cut, as the view finds them

first_part : (s : Shape) (k : Cut) (unit held done : List ℕ) (b : Bool) → k.ends ≡ b → length (done_of s k unit held done) ≡ s.size
    → one_if b (part_of (done_of s k unit held done) b 0 s.size) ≡ one_if b (completed_of s k unit held)
unfolding done_of
first_part s k unit held done true h l =
    let whole : done_of s k unit held done ≡ completed_of s k unit held = rw h refl in
    ap (one_if true) (part_whole (done_of s k unit held done) true s.size l ∙ whole)
first_part s k unit held done false h l = refl

second_part : (s : Shape) (k : Cut) (unit : List ℕ) (b : Bool) → (b ≡ true → k.next + s.size ≤ length unit)
    → one_if b (part_of unit b (cond b k.next 0) s.size) ≡ one_if b (inside_part s k unit)
unfolding inside_part
second_part s k unit true h = ap (one_if true) (part_fits unit true k.next s.size h)
second_part s k unit false h = refl

-- ---- a call that is done

module _ (s : Shape) (f : Fit s) (state : State) (c : SinkCall) (d : (sink_called s state c).received.answer ≡ Ok tt) where
  abbrev a : AfterWord
  a = pointed s state.pointer c.unit

  pub is_fed : Fed s state (length c.unit) (length c.held) (length c.done)
  is_fed = fed s state c.settings (length c.unit) (length c.held) (length c.done) (sym (answer_is s state c) ∙ d)

  -- what it leaves
  pub called_is : sink_called s state c ≡
      record {
        received = told a.pointer state.total (unit_outcome s state a c.settings c.unit c.held c.done).after c.settings;
        held = (unit_outcome s state a c.settings c.unit c.held c.done).held;
        done = (unit_outcome s state a c.settings c.unit c.held c.done).done;
      }
  unfolding sink
  called_is = outcome_done (faults s state c) _ _ (sym (answer_is s state c) ∙ d)

  module _ (n : is_normal a.pointer.state ≡ true) where
    -- the cut of its unit
    abbrev k : Cut
    k = cut_in s a.taken (offset_of a.pointer.state) state.held

    pub can : Receivable s a.taken (offset_of a.pointer.state) state.held c.unit c.held c.done
    can = receivable s state a c.unit c.held c.done (record { fit = f; fed = is_fed; after_is = refl }) (offset_of a.pointer.state) true refl (sym n) refl

    -- WHAT IS HANDED BACK IS WHAT ENDED: in this order, each in its place
    pub handed_normal : handed s c (sink_called s state c) ≡ ended_of s k c.unit c.held
    unfolding handed in_order told unit_outcome received_normal both_seen ended_in ended_of
    handed_normal =
        let b = begin_in s a.taken (offset_of a.pointer.state) state.held in
        let long = done_length s b.kept b.from c.unit c.held c.done can.line can.sizes in
        let within : k.inside ≡ true → k.next + s.size ≤ length c.unit = λ h. rw can.sizes.unit_is (inside_fits s b.kept b.from can.line h) in
        rw (called_is, n) (ap₂ (λ (a b : List (List ℕ)). a ++ b) (first_part s k c.unit c.held c.done k.ends refl long) (second_part s k c.unit k.inside within))

  -- nothing in alarm or lost
  pub handed_silent : is_normal a.pointer.state ≡ false → handed s c (sink_called s state c) ≡ []
  unfolding handed in_order told unit_outcome silence
  handed_silent n = rw (called_is, n) refl

-- nothing where it refuses
pub handed_refused : (s : Shape) (state : State) (c : SinkCall) (x : Refusal) → (sink_called s state c).received.answer ≡ Err x → handed s c (sink_called s state c) ≡ []
unfolding handed in_order sink told refusing silence
handed_refused s state c x =
    outcome_by (λ (o : ReceivedOutcome). o.received.answer ≡ Err x → handed s c o ≡ []) (faults s state c)
    (λ h. absurd (done_not_refused x h))
    (λ _ _. refl)
