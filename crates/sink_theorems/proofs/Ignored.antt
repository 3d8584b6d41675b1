-- What the sink ignores: of a unit it takes H1, H2 and the bytes from where its run of container bytes begins, for every shape, state and setting. So Y, 1*, an unused H3 and skipped places may hold anything. Assumes nothing.
use mathlib.Core.Path.{◌≡◌, refl, sym, ap, ◌∙◌}
use mathlib.Core.Bool.{Bool, true, false, false≢true}
use mathlib.Core.List.{List, ◌∷◌}
use Prim.Native.Nat.{ℕ, ◌+◌, ◌-◌, ◌*◌, ◌≤◌}
use native.Mathlib.Omega.{arith}
use lib.Dec.{ltb}
use lib.ListN.{length, get_or, take, drop}
use lib.Seq.{drop-drop}
use Rattle.laws.proofs.Tests.{by_test}
use Rattle.refusals.proofs.Wrong.{outcome_by}
use Rattle.shape.specs.Shape.{Shape, au4, run_from}
use Rattle.shape.specs.declared.Adjustment.{Adjustment}
use Rattle.shape.specs.declared.Adjustment.TheVariants as adjusts
use Rattle.shape.proofs.Offsets.{run_begins}
use Rattle.pointer_rules.specs.Rules.{restarts, adjustment_of}
use Rattle.pointer_rules.specs.declared.Taken.{Taken}
use Rattle.pointer_rules.specs.declared.Taken.TheVariants.{AlarmWord, NewData, Resync, Adjusted, Plain, Invalid}
use Rattle.pointer_state.specs.State.{is_normal, offset_of}
use Rattle.pointer.specs.declared.Pointer.{Pointer}
use Rattle.cut.specs.Cut.{next_of, inside_of, begin_of, cut_of, completed_of, inside_part, done_of, held_of}
use Rattle.cut.specs.declared.Cut.{Cut}
use Rattle.monitor.specs.declared.Monitor.{Monitor}
use Rattle.settings.specs.declared.Settings.{Settings}
use Rattle.view.specs.View.{part_of, in_order}
use Rattle.receiving.specs.Receiving.{UnitOutcome, from_in, begin_in, ended_in, both_seen, received_normal, silence}
use Rattle.sink.specs.Sink.{ReceivedOutcome, pointed, sink_faults, unit_outcome, told, refusing, sink}
use Rattle.sink.specs.declared.State.{State}
use Rattle.sink_theorems.specs.Reach.{SinkCall, sink_called, handed}

-- ---- what two units have in common

-- their length, H1 and H2, and the bytes from a place on
pub record Alike (s : Shape) (from : ℕ) (unit unit' : List ℕ) : Type 0 where
  pub long : length unit ≡ length unit'
  pub h1 : get_or unit 0 0 ≡ get_or unit' 0 0
  pub h2 : get_or unit s.step 0 ≡ get_or unit' s.step 0
  pub run : drop from unit ≡ drop from unit'

-- the same from a place on, the same from any later one on
drop_later : (m n : ℕ) (x y : List ℕ) → m ≤ n → drop m x ≡ drop m y → drop n x ≡ drop n y
drop_later m n x y h e =
    let q : m + (n - m) ≡ n = omega arith in
    rw q at (sym (drop-drop (n - m) m x) ∙ (ap (λ (l : List ℕ). drop (n - m) l) e ∙ drop-drop (n - m) m y))

alike_later : (s : Shape) (m n : ℕ) (unit unit' : List ℕ) → m ≤ n → Alike s m unit unit' → Alike s n unit unit'
alike_later s m n unit unit' h a = record { long = a.long; h1 = a.h1; h2 = a.h2; run = drop_later m n unit unit' h a.run }

-- ---- the cut: no byte of a container lies before the run

next_later : (s : Shape) (kept from : ℕ) → from ≤ next_of s kept from
unfolding next_of
next_later s kept from = by_test (λ (n : ℕ). from ≤ n) (ltb 0 kept) (λ _. omega arith) (λ _. omega arith)

begin_later : (s : Shape) (next : ℕ) → next ≤ begin_of s next
unfolding begin_of
begin_later s next = by_test (λ (n : ℕ). next ≤ n) (inside_of s next) (λ _. omega arith) (λ _. omega arith)

module _ (s : Shape) (kept from : ℕ) (unit unit' held done : List ℕ) (e : drop from unit ≡ drop from unit') where
  abbrev c : Cut
  c = cut_of s kept from

  completed_same : completed_of s c unit held ≡ completed_of s c unit' held
  unfolding cut_of completed_of
  completed_same = rw e refl

  inside_same : inside_part s c unit ≡ inside_part s c unit'
  unfolding cut_of inside_part
  inside_same = ap (λ (l : List ℕ). take s.size l) (drop_later from (next_of s kept from) unit unit' (next_later s kept from) e)

  held_same : held_of c unit held ≡ held_of c unit' held
  unfolding cut_of held_of
  held_same =
      let q = drop_later from (begin_of s (next_of s kept from)) unit unit' (omega (arith, next_later s kept from, begin_later s (next_of s kept from))) e in
      rw q refl

  done_same : done_of s c unit held done ≡ done_of s c unit' held done
  unfolding done_of
  done_same = rw completed_same refl

-- ---- one unit

received_same : (s : Shape) (t : Taken) (offset count : ℕ) (m : Monitor) (e : Settings) (unit unit' held done : List ℕ)
    → drop (begin_in s t offset count).from unit ≡ drop (begin_in s t offset count).from unit'
    → received_normal s t offset count m e unit held done ≡ received_normal s t offset count m e unit' held done
unfolding received_normal
received_same s t offset count m e unit unit' held done q =
    let b = begin_in s t offset count in
    rw (
      completed_same s b.kept b.from unit unit' held done q,
      inside_same s b.kept b.from unit unit' held done q,
      held_same s b.kept b.from unit unit' held done q,
      done_same s b.kept b.from unit unit' held done q,
    ) refl

pointed_same : (s : Shape) (p : Pointer) (from : ℕ) (unit unit' : List ℕ) → Alike s from unit unit' → pointed s p unit ≡ pointed s p unit'
unfolding pointed
pointed_same s p from unit unit' a = rw (a.h1, a.h2) refl

-- ---- the call

-- where the unit's run begins, as the sink takes its word
abbrev pub begins : Shape → State → List ℕ → ℕ
begins s state unit =
    let a = pointed s state.pointer unit in
    (begin_in s a.taken (offset_of a.pointer.state) state.held).from

-- a container inside the unit lies in the run
inside_later : (s : Shape) (state : State) (e : Settings) (unit held done : List ℕ) → (sink s state e unit held done).received.ended.inside ≡ true
    → begins s state unit ≤ (sink s state e unit held done).received.ended.place
unfolding sink unit_outcome told refusing silence received_normal both_seen ended_in cut_of
inside_later s state e unit held done =
    let a = pointed s state.pointer unit in
    let b = begin_in s a.taken (offset_of a.pointer.state) state.held in
    outcome_by (λ (o : ReceivedOutcome). o.received.ended.inside ≡ true → b.from ≤ o.received.ended.place)
    (sink_faults s state e (length unit) (length held) (length done))
    (by_test (λ (l : UnitOutcome). l.after.ended.inside ≡ true → b.from ≤ l.after.ended.place) (is_normal a.pointer.state)
    (λ _ h. rw h (next_later s b.kept b.from))
    (λ _ h. absurd (false≢true h)))
    (λ _ h. absurd (false≢true h))

-- so the view finds the same bytes there
part_same : (unit unit' : List ℕ) (from place size : ℕ) → length unit ≡ length unit' → drop from unit ≡ drop from unit' → (b : Bool) → (b ≡ true → from ≤ place)
    → part_of unit b place size ≡ part_of unit' b place size
unfolding part_of
part_same unit unit' from place size l e true h = rw (l, drop_later from place unit unit' (h refl) e) refl
part_same unit unit' from place size l e false h = refl

module _ (s : Shape) (state : State) (e : Settings) (unit unit' held done : List ℕ) where
  -- THE SINK IGNORES ALL ELSE: units with one H1 and H2, and the same bytes from the run's begin on, have one outcome
  pub ignored : Alike s (begins s state unit) unit unit' → sink s state e unit held done ≡ sink s state e unit' held done
  unfolding sink unit_outcome
  ignored l =
      let a = pointed s state.pointer unit in
      let r = received_same s a.taken (offset_of a.pointer.state) state.held state.monitor e unit unit' held done l.run in
      rw (r, l.long, pointed_same s state.pointer (begins s state unit) unit unit' l) refl

  -- the call with a unit u
  abbrev pub call : List ℕ → SinkCall
  call u = record { settings = e; unit = u; held = held; done = done }

  -- and the same containers are handed back, that inside the unit among them
  pub handed_ignored : Alike s (begins s state unit) unit unit' → handed s (call unit) (sink_called s state (call unit)) ≡ handed s (call unit') (sink_called s state (call unit'))
  unfolding handed in_order
  handed_ignored l =
      let r = (sink s state e unit held done).received.ended in
      rw (part_same unit unit' (begins s state unit) r.place s.size l.long l.run r.inside (inside_later s state e unit held done), ignored l) refl

-- ---- in 01's words

-- no run begins before the place that the unit's adjustment gives
begins_run : (s : Shape) (t : Taken) (offset : ℕ) → run_from s.step (adjustment_of t) ≤ from_in s (restarts t) (adjustment_of t) offset
unfolding from_in restarts adjustment_of run_from
begins_run s AlarmWord offset = omega arith
begins_run s (NewData v) offset = omega arith
begins_run s (Resync v) offset = omega arith
begins_run s (Adjusted a v) offset = omega arith
begins_run s Plain offset = omega arith
begins_run s Invalid offset = omega arith

run_h3 : (step : ℕ) (a : Adjustment) → (a ≡ adjusts.Decrement → ⊥) → 3 * step ≤ run_from step a
unfolding run_from
run_h3 step adjusts.Nothing h = omega arith
run_h3 step adjusts.Increment h = omega arith
run_h3 step adjusts.Decrement h = absurd (h refl)

-- the adjustment that the unit makes
abbrev pub made : Shape → State → List ℕ → Adjustment
made s state unit = adjustment_of (pointed s state.pointer unit).taken

module _ (s : Shape) (state : State) (e : Settings) (unit unit' held done : List ℕ) where
  from_run : (n : ℕ) → n ≤ run_from s.step (made s state unit) → Alike s n unit unit' → sink s state e unit held done ≡ sink s state e unit' held done
  unfolding begin_in
  from_run n h l =
      let a = pointed s state.pointer unit in
      let q = begins_run s a.taken (offset_of a.pointer.state) in
      ignored s state e unit unit' held done (alike_later s n (begins s state unit) unit unit' (omega (arith, h, q)) l)

  -- "Y = 9B and 1* = FF": in every unit
  pub fill_ignored : Alike s (2 * s.step) unit unit' → sink s state e unit held done ≡ sink s state e unit' held done
  fill_ignored = from_run (2 * s.step) (run_begins s.step (made s state unit)).behind

  -- "00 in unused H3": in a unit that is no decrement
  pub h3_ignored : (made s state unit ≡ adjusts.Decrement → ⊥) → Alike s (3 * s.step) unit unit' → sink s state e unit held done ≡ sink s state e unit' held done
  h3_ignored h = from_run (3 * s.step) (run_h3 s.step (made s state unit) h)

  -- "or skipped places": in an increment unit
  pub skipped_ignored : made s state unit ≡ adjusts.Increment → Alike s (4 * s.step) unit unit' → sink s state e unit held done ≡ sink s state e unit' held done
  unfolding run_from
  skipped_ignored h = from_run (4 * s.step) (rw h (omega arith))

-- AU-4, byte by byte: whatever stands for Y, Y, 1*, 1*
pub au4_fill : (state : State) (e : Settings) (h1 y1 y2 h2 f1 f2 y1' y2' f1' f2' : ℕ) (rest held done : List ℕ)
    → sink au4 state e (h1 ∷ y1 ∷ y2 ∷ h2 ∷ f1 ∷ f2 ∷ rest) held done ≡ sink au4 state e (h1 ∷ y1' ∷ y2' ∷ h2 ∷ f1' ∷ f2' ∷ rest) held done
au4_fill state e h1 y1 y2 h2 f1 f2 y1' y2' f1' f2' rest held done =
    fill_ignored au4 state e (h1 ∷ y1 ∷ y2 ∷ h2 ∷ f1 ∷ f2 ∷ rest) (h1 ∷ y1' ∷ y2' ∷ h2 ∷ f1' ∷ f2' ∷ rest) held done
    (record { long = refl; h1 = refl; h2 = refl; run = refl })
