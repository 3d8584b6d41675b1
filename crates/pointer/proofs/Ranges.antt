-- A pointer in range stays in range, whatever the words; its offset is a pointer value; and a unit that ends normal with no restart began normal and moved by
-- its adjustment. Assumes nothing.
use mathlib.Core.Path.{◌≡◌, refl, sym}
use mathlib.Core.Bool.{true, false, ◌&&◌, false≢true}
use Prim.Native.Nat.{ℕ, ◌≤◌}
use native.Mathlib.Omega.{arith}
use borrow.Author.Tests.{leb-true, le-leb}
use lib.Dec.{eqb, leb}
use Rattle.laws.proofs.Tests.{by_test, and_left}
use Rattle.counts.specs.Counts.{more, run_on}
use Rattle.word.specs.Word.{normal, value_of, good}
use Rattle.shape.specs.Shape.{offset_after}
use Rattle.shape.specs.declared.Adjustment.{Adjustment}
use Rattle.shape.specs.declared.Adjustment.TheVariants as offset
use Rattle.shape.proofs.Offsets.{after_low}
use Rattle.pointer_rules.specs.Rules.{run_after, restarts, adjustment_of}
use Rattle.pointer_state.specs.declared.State.{State}
use Rattle.pointer_state.specs.declared.State.TheVariants.{Normal, Alarm, Lost}
use Rattle.pointer_rules.specs.declared.Taken.{Taken}
use Rattle.pointer_rules.specs.declared.Taken.TheVariants.{AlarmWord, NewData, Resync, Adjusted, Plain, Invalid}
use Rattle.pointer_rules.specs.declared.Run.{Run}
use Rattle.pointer_rules.proofs.Names.{Moved, Names, good_low, taken_names}
use Rattle.pointer_state.specs.State.{is_normal, offset_of, placed}
use Rattle.pointer.specs.Machine.{fresh_pointer, rows_after, alarm_word, renewed, new_data, invalid, state_after, wait_after, taken_in, pointer_step, rows_in, run_in, pointer_in_range}
use Rattle.pointer.specs.declared.Rows.{Rows}
use Rattle.pointer.specs.declared.Pointer.{Pointer}

-- ---- placed

pub placed_low : (top : ℕ) (state : State) → placed top state ≡ true → offset_of state ≤ top
unfolding placed offset_of
placed_low top (Normal at) h = leb-true at top h
placed_low top Alarm h = omega arith
placed_low top Lost h = omega arith

moved_low : (top : ℕ) (a : Adjustment) (state : State) (v : ℕ) → placed top state ≡ true → Moved top a state v → v ≤ top
unfolding placed
moved_low top a state v h m = rw m.leads (after_low top a m.at (leb-true m.at top (rw m.state_is at h)))

state_placed : (top : ℕ) (state : State) (rows : Rows) (t : Taken) → placed top state ≡ true → Names top state t → placed top (state_after state rows t) ≡ true
unfolding placed state_after alarm_word new_data renewed invalid Names
state_placed top state rows AlarmWord h n = by_test (λ (q : State). placed top q ≡ true) (leb 3 rows.alarms) (λ _. refl) (λ _. h)
state_placed top (Normal at) rows (NewData v) h n = by_test (λ (q : State). placed top q ≡ true) (leb 8 rows.news) (λ _. refl) (λ _. le-leb v top n)
state_placed top Alarm rows (NewData v) h n = by_test (λ (q : State). placed top q ≡ true) (leb 8 rows.news) (λ _. refl) (λ _. le-leb v top n)
state_placed top Lost rows (NewData v) h n = refl
state_placed top state rows (Resync v) h n = le-leb v top n
state_placed top state rows Plain h n = h
state_placed top state rows (Adjusted a v) h n = le-leb v top (moved_low top a state v h n)
state_placed top state rows Invalid h n = by_test (λ (q : State). placed top q ≡ true) (leb 8 rows.invalids) (λ _. refl) (λ _. h)

-- ---- the counts

more_in : (n most : ℕ) → leb (more n most) most ≡ true
more_in n most = le-leb (more n most) most (omega arith)

rows_in_lem : (rows : Rows) (t : Taken) → rows_in (rows_after rows t) ≡ true
unfolding rows_after
rows_in_lem rows AlarmWord = rw (more_in rows.alarms 3)
rows_in_lem rows (NewData v) = rw (more_in rows.news 8)
rows_in_lem rows (Resync v) = refl
rows_in_lem rows Plain = refl
rows_in_lem rows (Adjusted a v) = refl
rows_in_lem rows Invalid = rw (more_in rows.invalids 8)

run_in_lem : (run : Run) (top w : ℕ) → run_in top (run_after run top w) ≡ true
unfolding run_after run_on
run_in_lem run top w =
    by_test (λ (r : Run). run_in top r ≡ true) (good normal top w)
    (λ g.
    let low = le-leb (value_of w) top (good_low normal top w g) in
    by_test (λ (n : ℕ). (leb n 3 && leb (value_of w) top) ≡ true) (eqb run.value (value_of w)) (λ _. rw (more_in run.count 3, low)) (λ _. low))
    (λ _. le-leb 0 top (omega arith))

wait_le : (wait : ℕ) (state : State) (t : Taken) → wait_after wait state t ≤ 3
unfolding wait_after
wait_le wait state AlarmWord = omega arith
wait_le wait state (NewData v) = by_test (λ (n : ℕ). n ≤ 3) (is_normal state) (λ _. omega arith) (λ _. omega arith)
wait_le wait state (Resync v) = omega arith
wait_le wait state Plain = omega arith
wait_le wait state (Adjusted a v) = omega arith
wait_le wait state Invalid = omega arith

-- ---- pointer_in_range

in_placed : (top : ℕ) (s : Pointer) → pointer_in_range top s ≡ true → placed top s.state ≡ true
unfolding pointer_in_range
in_placed top s h = search (and_left, h)

-- "Its offset is a pointer value"
pub offset_low : (top : ℕ) (s : Pointer) → pointer_in_range top s ≡ true → offset_of s.state ≤ top
offset_low top s h = placed_low top s.state (in_placed top s h)

pub fresh_in_range : (top : ℕ) → pointer_in_range top fresh_pointer ≡ true
unfolding pointer_in_range fresh_pointer placed
fresh_in_range top = simp (le-leb 0 top (omega arith))

-- A pointer's numbers stay in their ranges.
pub step_in_range : (top : ℕ) (s : Pointer) (w : ℕ) → pointer_in_range top s ≡ true → pointer_in_range top (pointer_step s top w).pointer ≡ true
unfolding pointer_in_range pointer_step taken_in
step_in_range top s w h =
    let t = taken_in s top w in
    let rows = rows_after s.rows t in
    let state = state_after s.state rows t in
    simp (
      state_placed top s.state rows t (in_placed top s h) (taken_names top s.state s.run s.wait w),
      rows_in_lem s.rows t,
      run_in_lem,
      le-leb (wait_after s.wait state t) 3 (wait_le s.wait state t),
    )

-- ---- a unit that ends normal

-- from a normal state to the other, the adjustment moved the offset
pub record Goes (top : ℕ) (a : Adjustment) (before after : State) : Type 0 where
  pub was_normal : is_normal before ≡ true
  pub moved : offset_of after ≡ offset_after top a (offset_of before)

stays : (top : ℕ) (state : State) → is_normal state ≡ true → Goes top offset.Nothing state state
unfolding offset_after
stays top state e = record { was_normal = e; moved = refl }

goes : (top : ℕ) (a : Adjustment) (state : State) (v : ℕ) → Moved top a state v → Goes top a state (Normal v)
unfolding is_normal offset_of
goes top a state v m = record { was_normal = rw m.state_is; moved = rw m.state_is m.leads }

state_goes : (top : ℕ) (state : State) (rows : Rows) (t : Taken) → Names top state t → restarts t ≡ false → is_normal (state_after state rows t) ≡ true → Goes top (adjustment_of t) state (state_after state rows t)
unfolding state_after alarm_word invalid restarts adjustment_of Names is_normal
state_goes top state rows AlarmWord n r =
    by_test (λ (q : State). is_normal q ≡ true → Goes top offset.Nothing state q) (leb 3 rows.alarms) (λ _ e. absurd (false≢true e)) (λ _. stays top state)
state_goes top state rows (NewData v) n r = absurd (false≢true (sym r))
state_goes top state rows (Resync v) n r = absurd (false≢true (sym r))
state_goes top state rows Plain n r = stays top state
state_goes top state rows (Adjusted a v) n r = λ _. goes top a state v n
state_goes top state rows Invalid n r =
    by_test (λ (q : State). is_normal q ≡ true → Goes top offset.Nothing state q) (leb 8 rows.invalids) (λ _ e. absurd (false≢true e)) (λ _. stays top state)

-- A unit that ends normal and did not restart began normal, and its offset moved by the adjustment, of any pointer.
pub going : (top : ℕ) (s : Pointer) (w : ℕ) → restarts (pointer_step s top w).taken ≡ false → is_normal (pointer_step s top w).pointer.state ≡ true → Goes top (adjustment_of (pointer_step s top w).taken) s.state (pointer_step s top w).pointer.state
unfolding pointer_step taken_in
going top s w =
    let t = taken_in s top w in
    state_goes top s.state (rows_after s.rows t) t (taken_names top s.state s.run s.wait w)
