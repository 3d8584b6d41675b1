-- What the probe of the sink has to show, of what the calls have shown. Assumes nothing.
use mathlib.Core.Path.{◌≡◌, refl, ap, ◌∙◌}
use mathlib.Core.Bool.{false}
use mathlib.Core.List.{List}
use Prim.Native.Nat.{ℕ}
use Rattle.std.specs.Prelude.{Result, Ok, Err, ⊤}
use Rattle.refusals.specs.Refusals.{answer_number, answer_place}
use Rattle.refusals.specs.declared.Refusal.{Refusal}
use Rattle.settings.specs.Flags.{flags_of}
use Rattle.settings.specs.declared.Flags.{Flags}
use Rattle.trace_monitor.specs.Trace.{blank_trace}
use Rattle.monitor.specs.Monitoring.{blank_of}
use Rattle.receiving.specs.Receiving.{silence}
use Rattle.receiving.specs.declared.AfterUnit.{AfterUnit}
use Rattle.unit_end.specs.Terms.{has, or_any, and_all, and_none, termination}
use Rattle.unit_end.specs.Actions.{defects_of, actions_of, causes_of}
use Rattle.unit_end.specs.declared.Defects.{Defects}
use Rattle.unit_end.specs.declared.Actions.{Actions}
use Rattle.unit_end.specs.declared.Causes.{Causes}
use Rattle.shape.specs.Shape.{au4}
use Rattle.pointer_state.specs.declared.State as reading
use Rattle.pointer_state.specs.State.{offset_of}
use Rattle.settings.specs.declared.Settings.{Settings}
use Rattle.sink.specs.Sink.{fresh_sink, refusing, Received, received_by, Receives}
use Rattle.sink.specs.declared.Report.{Report}
use Rattle.sink.specs.declared.State.{State}
use Rattle.probe_sink.specs.Probe.{pointer_state, state_kind, state_of, plain_of, untold, received_as, shown_of, probed_of, Shows}
use Rattle.probe_sink.specs.declared.Plain.{Plain}
use Rattle.probe_sink.specs.declared.Shown.{Shown}

pub state_is : (p : Plain) (x : reading.State) → x ≡ pointer_state p.kind p.offset
    → record { pointer = record { state = x; rows = p.rows; run = p.run; wait = p.wait }; held = p.held; monitor = p.monitor; total = p.total } ≡ state_of p
unfolding state_of
state_is p x e = rw e refl

pub plain_is : (s : State) (k o : ℕ) → k ≡ state_kind s.pointer.state → o ≡ offset_of s.pointer.state
    → record {
      kind = k;
      offset = o;
      rows = s.pointer.rows;
      run = s.pointer.run;
      wait = s.pointer.wait;
      held = s.held;
      monitor = s.monitor;
      total = s.total;
    }
    ≡ plain_of s
unfolding plain_of
plain_is s k o e f = rw (e, f) refl

pub told_none : (none : AfterUnit) (defects : Defects) (actions : Actions) (f : Flags) (causes : Causes)
    → none ≡ silence → defects ≡ defects_of none.monitor → f ≡ flags_of 0 → actions ≡ actions_of termination false defects → causes ≡ causes_of termination false false defects f
    → record { ended = none.ended; actions = actions; defects = defects; causes = causes; settled = false } ≡ untold
unfolding untold silence blank_of blank_trace flags_of defects_of actions_of causes_of has or_any and_all and_none
told_none none defects actions f causes h d g a c = rw (a, c, g, d, h) refl

pub shown_is : (a : Result ⊤ Refusal) (s : State) (r : Report) (n o : ℕ) (p : Plain) → n ≡ answer_number a → o ≡ answer_place a → p ≡ plain_of s
    → record {
      number = n;
      place = o;
      state = p;
      ended = r.ended;
      actions = r.actions;
      defects = r.defects;
      causes = r.causes;
      settled = r.settled;
    }
    ≡ shown_of (received_as a s r)
unfolding shown_of
shown_is a s r n o p e g f = rw (e, g, f) refl

module _ (a : Result Report Refusal) (s : State) (q : Shown) where
  pub shown_done : (r : Report) → a ≡ Ok r → q ≡ shown_of (received_as (Ok tt) s r) → q ≡ shown_of (received_by a s)
  unfolding received_by
  shown_done r e h = rw e h

  pub shown_refused : (x : Refusal) (r : Report) → a ≡ Err x → r ≡ untold → q ≡ shown_of (received_as (Err x) s r) → q ≡ shown_of (received_by a s)
  unfolding received_by refusing untold
  shown_refused x r e u h = rw e (rw u at h)

pub fresh_is : (s : State) (p : Plain) → s ≡ fresh_sink → p ≡ plain_of s → p ≡ plain_of fresh_sink
fresh_is s p e f = f ∙ ap plain_of e

pub shows : (p : Plain) (e : Settings) (unit held done held' done' : List ℕ) (s : State) (x : Received) (q : Shown)
    → s ≡ state_of p → Receives au4 s e unit held done x held' done' → q ≡ shown_of x → Shows p e unit held done q held' done'
shows p e unit held done held' done' s x q k h f = rw (f, ← k) (ap probed_of h.outcome_is)
