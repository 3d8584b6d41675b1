-- Every state that calls can reach has its numbers in range, the held count among them, and so is never refused by 8. Assumes nothing.
use mathlib.Core.Path.{◌≡◌, refl, sym}
use mathlib.Core.Bool.{Bool, true, false, cond, false≢true}
use mathlib.Core.List.{List, [], ◌∷◌}
use Prim.Native.Nat.{ℕ}
use native.Mathlib.Omega.{arith}
use lib.ListN.{length}
use Rattle.laws.proofs.Tests.{by_test}
use Rattle.refusals.proofs.Wrong.{outcome_by}
use Rattle.refusals.specs.declared.Refusal.TheVariants as wrong
use Rattle.std.specs.Prelude.{Err}
use Rattle.shape.specs.Shape.{Shape, Fit, held_count}
use Rattle.shape.proofs.Offsets.{held_none}
use Rattle.pointer_rules.specs.Rules.{restarts, adjustment_of}
use Rattle.pointer_rules.specs.declared.Taken.{Taken}
use Rattle.pointer_state.specs.declared.State as reading
use Rattle.pointer_state.specs.declared.State.TheVariants.{Normal, Alarm, Lost}
use Rattle.pointer_state.specs.State.{is_normal, offset_of}
use Rattle.pointer.specs.Machine as pointer
use Rattle.pointer.specs.declared.AfterWord.{AfterWord}
use Rattle.pointer.proofs.Ranges.{offset_low, step_in_range, fresh_in_range, Goes, going}
use Rattle.cut.specs.Cut.{cut_of}
use Rattle.cut.specs.declared.Cut.{Cut}
use Rattle.cut.proofs.Count.{rest_goes, rest_restarts}
use Rattle.monitor.specs.Seeing.{seen_in}
use Rattle.monitor.specs.Monitoring as monitor
use Rattle.monitor.specs.declared.Monitor.{Monitor}
use Rattle.settings.specs.declared.Settings.{Settings}
use Rattle.monitor.proofs.Ranges.{step_range, blank_range, forgot_range}
use Rattle.receiving.specs.Receiving.{UnitOutcome, monitor_in, from_in, begin_in, cut_in, watched, both_seen, received_normal, silence}
use Rattle.sink.specs.Sink.{fresh_sink, ReceivedOutcome, held_in, sink_out_of_range, sink_faults, pointed, unit_outcome, told, refusing, sink}
use Rattle.sink.specs.declared.State.{State}
use Rattle.sink.proofs.Refuses.{Ranged, ranged, in_range}
use Rattle.sink_theorems.proofs.Refused.{not_8}
use Rattle.sink_theorems.specs.Reach.{SinkCall, sink_called, after_calls, reached}

-- ---- the monitor

met_range : (t : Taken) (m : Monitor) → monitor.monitor_in_range m ≡ true → monitor.monitor_in_range (monitor_in t m) ≡ true
met_range t m h = by_test (λ (n : Monitor). monitor.monitor_in_range n ≡ true) (restarts t) (λ _. forgot_range m h) (λ _. h)

watched_range : (b : Bool) (columns : ℕ) (container : List ℕ) (e : Settings) (m : Monitor) → monitor.monitor_in_range m ≡ true → monitor.monitor_in_range (watched b columns container e m).monitor ≡ true
unfolding watched monitor.seen_of
watched_range true columns container e m h = step_range m (seen_in columns container) e h
watched_range false columns container e m h = h

both_range : (s : Shape) (c : Cut) (completed inside : List ℕ) (m : Monitor) (e : Settings) → monitor.monitor_in_range m ≡ true → monitor.monitor_in_range (both_seen s c completed inside m e).monitor ≡ true
unfolding both_seen
both_range s c completed inside m e h =
    watched_range c.inside s.columns inside e (watched c.ends s.columns completed e m).monitor (watched_range c.ends s.columns completed e m h)

-- ---- one unit

-- nothing is held outside normal
held_silent : (s : Shape) (x : reading.State) → is_normal x ≡ false → held_count s (offset_of x) ≡ 0
unfolding is_normal offset_of
held_silent s (Normal v) h = absurd (false≢true (sym h))
held_silent s Alarm h = held_none s
held_silent s Lost h = held_none s

module _ (s : Shape) (f : Fit s) (state : State) (r : Ranged s state) (unit : List ℕ) where
  abbrev a : AfterWord
  a = pointed s state.pointer unit

  pointer_kept : pointer.pointer_in_range s.top a.pointer ≡ true
  unfolding pointed
  pointer_kept = step_in_range s.top state.pointer _ r.pointer_in

  goes : restarts a.taken ≡ false → is_normal a.pointer.state ≡ true → Goes s.top (adjustment_of a.taken) state.pointer.state a.pointer.state
  unfolding pointed
  goes = going s.top state.pointer _

  -- the held count after a unit that ends normal, by whether it restarts
  rest_by : (b : Bool) → restarts a.taken ≡ b → is_normal a.pointer.state ≡ true
      → (cut_of s (cond b 0 state.held) (from_in s b (adjustment_of a.taken) (offset_of a.pointer.state))).rest ≡ held_in s a.pointer
  unfolding from_in
  rest_by true h n = rest_restarts s (offset_of a.pointer.state) f (offset_low s.top a.pointer pointer_kept)
  rest_by false h n =
      rw (r.held_is, (goes h n).moved)
      (rest_goes s (adjustment_of a.taken) (offset_of state.pointer.state) f (offset_low s.top state.pointer r.pointer_in))

  -- what a unit leaves is in range
  leaving_monitor : (e : Settings) (held done : List ℕ) → monitor.monitor_in_range (unit_outcome s state a e unit held done).after.monitor ≡ true
  unfolding unit_outcome received_normal silence
  leaving_monitor e held done =
      by_test (λ (l : UnitOutcome). monitor.monitor_in_range l.after.monitor ≡ true) (is_normal a.pointer.state)
      (λ _. both_range s (cut_in s a.taken (offset_of a.pointer.state) state.held) _ _ (monitor_in a.taken state.monitor) e (met_range a.taken state.monitor r.monitor_in_lem))
      (λ _. blank_range 48 (omega arith))

  leaving_held : (e : Settings) (held done : List ℕ) → (unit_outcome s state a e unit held done).after.held ≡ held_in s a.pointer
  unfolding unit_outcome received_normal silence both_seen begin_in
  leaving_held e held done =
      by_test (λ (l : UnitOutcome). l.after.held ≡ held_in s a.pointer) (is_normal a.pointer.state)
      (λ n. rest_by (restarts a.taken) refl n)
      (λ n. sym (held_silent s a.pointer.state n))

  -- so is the state that is told
  told_kept : (e : Settings) (held done : List ℕ) → Ranged s (told a.pointer state.total (unit_outcome s state a e unit held done).after e).state
  unfolding told
  told_kept e held done = record { pointer_in = pointer_kept; monitor_in_lem = leaving_monitor e held done; held_is = leaving_held e held done }

-- ---- one call, refused or not

pub call_in_range : (s : Shape) (c : SinkCall) (state : State) → Fit s → sink_out_of_range s state ≡ false → sink_out_of_range s (sink_called s state c).received.state ≡ false
unfolding sink refusing
call_in_range s c state f h =
    outcome_by (λ (o : ReceivedOutcome). sink_out_of_range s o.received.state ≡ false)
    (sink_faults s state c.settings (length c.unit) (length c.held) (length c.done))
    (in_range s _ (told_kept s f state (ranged s state h) c.unit c.settings c.held c.done))
    (λ _. h)

-- ---- any row of calls

fresh_in : (s : Shape) → sink_out_of_range s fresh_sink ≡ false
unfolding fresh_sink offset_of pointer.fresh_pointer
fresh_in s = in_range s fresh_sink (record { pointer_in = fresh_in_range s.top; monitor_in_lem = blank_range 0 (omega arith); held_is = sym (held_none s) })

calls_in_range : (s : Shape) (state : State) (calls : List SinkCall) → Fit s → sink_out_of_range s state ≡ false → sink_out_of_range s (after_calls s state calls) ≡ false
unfolding after_calls
calls_in_range s state [] f h = h
calls_in_range s state (c ∷ calls) f h = calls_in_range s (sink_called s state c).received.state calls f (call_in_range s c state f h)

-- EVERY STATE THAT CALLS CAN REACH IS IN RANGE, the held count included
pub reached_in_range : (s : Shape) (calls : List SinkCall) → Fit s → sink_out_of_range s (reached s calls) ≡ false
reached_in_range s calls f = calls_in_range s fresh_sink calls f (fresh_in s)

-- and so no call of it is refused by 8
pub reached_not_8 : (s : Shape) (calls : List SinkCall) (c : SinkCall) → Fit s → (sink_called s (reached s calls) c).received.answer ≡ Err wrong.State → ⊥
reached_not_8 s calls c f h = not_8 s (reached s calls) c (reached_in_range s calls f) h
