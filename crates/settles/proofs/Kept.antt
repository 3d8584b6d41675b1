-- What every call keeps: the total within its cap, the 15 places of the message that is gathered, the lengths of the buffers. So of every state that calls can reach, of
-- the sink and of both sources. Assumes nothing.
use mathlib.Core.Path.{◌≡◌, refl, sym, ap, ◌∙◌}
use mathlib.Core.Bool.{Bool, true, false, not, ◌||◌}
use mathlib.Core.List.{List, [], ◌∷◌}
use Prim.Native.Nat.{ℕ, ◌≤◌}
use native.Mathlib.Omega.{arith}
use lib.Dec.{eqb}
use lib.ListN.{length}
use borrow.Author.Tests.{eq-eqb}
use Rattle.laws.proofs.Tests.{by_test}
use Rattle.settings.specs.Faults.{settings_faults}
use Rattle.std.specs.Prelude.{Ok}
use Rattle.refusals.specs.Refusals.{answer_of}
use Rattle.refusals.proofs.Wrong.{outcome_by, none_done}
use Rattle.shape.specs.Shape.{Shape, Fit, unit_length}
use Rattle.pointer_state.specs.State.{is_normal, offset_of}
use Rattle.pointer.specs.declared.AfterWord.{AfterWord}
use Rattle.cut.specs.declared.Cut.{Cut}
use Rattle.cut.proofs.Outcome.{done_length, held_length}
use Rattle.monitor.specs.Seeing.{seen_in}
use Rattle.monitor.specs.Monitoring.{seen_of}
use Rattle.monitor.specs.declared.Monitor.{Monitor}
use Rattle.settings.specs.declared.Settings.{Settings}
use Rattle.settles_monitor.specs.Near.{Whole}
use Rattle.settles_monitor.proofs.Settles.{whole_step, whole_blank, whole_met}
use Rattle.receiving.specs.Receiving.{UnitOutcome, monitor_in, cut_in, watched, both_seen, received_normal, silence, begin_in}
use Rattle.unit_end.specs.Settled.{total_of}
use Rattle.sink.specs.Sink.{fresh_sink, ReceivedOutcome, sink_out_of_range, pointed, unit_outcome, told, refusing, sink}
use Rattle.sink.specs.declared.State.{State}
use Rattle.sink.proofs.Refuses.{nothing_wrong}
use Rattle.sink_theorems.specs.Reach.{SinkCall, sink_called, after_calls, reached}
use Rattle.sink_theorems.proofs.Refused.{faults, answer_is}
use Rattle.sink_theorems.proofs.Handed.{called_is, is_fed, can}

-- ---- the sink: 15 places

watched_whole : (b : Bool) (columns : ℕ) (container : List ℕ) (e : Settings) (m : Monitor) → Whole m → Whole (watched b columns container e m).monitor
unfolding watched seen_of
watched_whole true columns container e m h = whole_step m (seen_in columns container) e h
watched_whole false columns container e m h = h

both_whole : (s : Shape) (c : Cut) (completed inside : List ℕ) (m : Monitor) (e : Settings) → Whole m → Whole (both_seen s c completed inside m e).monitor
unfolding both_seen
both_whole s c completed inside m e h =
    watched_whole c.inside s.columns inside e (watched c.ends s.columns completed e m).monitor (watched_whole c.ends s.columns completed e m h)

leaving_whole : (s : Shape) (state : State) (a : AfterWord) (e : Settings) (unit held done : List ℕ) → Whole state.monitor → Whole (unit_outcome s state a e unit held done).after.monitor
unfolding unit_outcome received_normal silence
leaving_whole s state a e unit held done h =
    by_test (λ (l : UnitOutcome). Whole l.after.monitor) (is_normal a.pointer.state)
    (λ _. both_whole s (cut_in s a.taken (offset_of a.pointer.state) state.held) _ _ (monitor_in a.taken state.monitor) e (whole_met a.taken state.monitor h))
    (λ _. whole_blank 48)

pub call_whole : (s : Shape) (state : State) (c : SinkCall) → Whole state.monitor → Whole (sink_called s state c).received.state.monitor
unfolding sink told refusing
call_whole s state c h =
    outcome_by (λ (o : ReceivedOutcome). Whole o.received.state.monitor) (faults s state c)
    (leaving_whole s state (pointed s state.pointer c.unit) c.settings c.unit c.held c.done h)
    (λ _. h)

-- ---- the total

-- "stays at 65,535"
total_low : (total : ℕ) (settled : Bool) → total ≤ 65535 → total_of total settled ≤ 65535
unfolding total_of
total_low total settled h = by_test (λ (n : ℕ). n ≤ 65535) settled (λ _. h) (λ _. omega arith)

pub call_total : (s : Shape) (state : State) (c : SinkCall) → state.total ≤ 65535 → (sink_called s state c).received.state.total ≤ 65535
unfolding sink told refusing
call_total s state c h =
    outcome_by (λ (o : ReceivedOutcome). o.received.state.total ≤ 65535) (faults s state c)
    (total_low state.total _ h)
    (λ _. h)

-- ---- any row of calls

calls_keep : (s : Shape) (state : State) (calls : List SinkCall) → Whole state.monitor → state.total ≤ 65535
    → Whole (after_calls s state calls).monitor × ((after_calls s state calls).total ≤ 65535)
unfolding after_calls
calls_keep s state [] w t = (w, t)
calls_keep s state (c ∷ calls) w t = calls_keep s (sink_called s state c).received.state calls (call_whole s state c w) (call_total s state c t)

pub reached_whole : (s : Shape) (calls : List SinkCall) → Whole (reached s calls).monitor
unfolding fresh_sink
reached_whole s calls = (calls_keep s fresh_sink calls (whole_blank 0) (omega arith)).0

pub reached_total : (s : Shape) (calls : List SinkCall) → (reached s calls).total ≤ 65535
unfolding fresh_sink
reached_total s calls = (calls_keep s fresh_sink calls (whole_blank 0) (omega arith)).1

-- ---- a call that nothing is wrong with

pub call_done : (s : Shape) (state : State) (c : SinkCall) → sink_out_of_range s state ≡ false → settings_faults c.settings ≡ []
    → length c.unit ≡ unit_length s → length c.held ≡ s.size → length c.done ≡ s.size → (sink_called s state c).received.answer ≡ Ok tt
call_done s state c o fine u h d =
    let both : (not (eqb (length c.held) s.size) || not (eqb (length c.done) s.size)) ≡ false = simp (eq-eqb (length c.held) s.size h, eq-eqb (length c.done) s.size d) in
    answer_is s state c
    ∙ sym (nothing_wrong s state c.settings (length c.unit) (length c.held) (length c.done)
    (sink_out_of_range s state) refl o (answer_of (settings_faults c.settings)) refl (none_done (settings_faults c.settings) fine) _ refl u both)

-- it leaves both buffers as long as they were
module _ (s : Shape) (f : Fit s) (state : State) (c : SinkCall) (d : (sink_called s state c).received.answer ≡ Ok tt) where
  abbrev a : AfterWord
  a = pointed s state.pointer c.unit

  lengths : (b : Bool) → is_normal a.pointer.state ≡ b
      → (length (unit_outcome s state a c.settings c.unit c.held c.done).held ≡ s.size) × (length (unit_outcome s state a c.settings c.unit c.held c.done).done ≡ s.size)
  unfolding unit_outcome received_normal
  lengths true n =
      let k = begin_in s a.taken (offset_of a.pointer.state) state.held in
      let r = can s f state c d n in
      rw n
      (held_length s k.kept k.from c.unit c.held c.done r.line r.sizes, done_length s k.kept k.from c.unit c.held c.done r.line r.sizes)
  lengths false n = rw n ((is_fed s f state c d).held_is, (is_fed s f state c d).done_is)

  pub call_held : length (sink_called s state c).held ≡ s.size
  call_held = ap (λ (o : ReceivedOutcome). length o.held) (called_is s f state c d) ∙ (lengths (is_normal a.pointer.state) refl).0

  pub call_buffer : length (sink_called s state c).done ≡ s.size
  call_buffer = ap (λ (o : ReceivedOutcome). length o.done) (called_is s f state c d) ∙ (lengths (is_normal a.pointer.state) refl).1
