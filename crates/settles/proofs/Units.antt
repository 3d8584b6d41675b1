-- One unit of a run, of any containers of the right length: neither call is refused, and what it leaves at both ends. Assumes nothing.
use mathlib.Core.Path.{◌≡◌, sym, ap, ap₂, ◌∙◌}
use mathlib.Core.Bool.{true, false, ◌&&◌}
use mathlib.Core.List.{List, []}
use Prim.Native.Nat.{ℕ, ◌+◌, ◌*◌, ◌≤◌}
use lib.Dec.{ltb}
use lib.ListN.{length, take}
use Rattle.settings.specs.Faults.{settings_faults}
use Rattle.std.specs.Prelude.{Ok}
use Rattle.shape.specs.Shape.{Shape, Fit, place_of, held_count, offset_after, run_from, ended_by}
use Rattle.shape.specs.declared.Adjustment.{Adjustment}
use Rattle.shape.specs.declared.Adjustment.TheVariants.{Nothing}
use Rattle.unit_source.specs.Source as unit-source
use Rattle.unit_source.specs.Source.{adjusts, word_sent, unit_sent}
use Rattle.unit_source_theorems.specs.Sending as stream
use Rattle.unit_source_theorems.proofs.Spaced as spaced
use Rattle.unit_source_theorems.proofs.Words.{word_carried}
use Rattle.pointer_rules.specs.Rules.{restarts}
use Rattle.pointer_rules.specs.declared.Taken.TheVariants.{Resync}
use Rattle.pointer_state.specs.declared.State.TheVariants.{Normal}
use Rattle.pointer_state.specs.State.{is_normal, offset_of}
use Rattle.pointer.specs.Machine.{pointer_step}
use Rattle.pointer.specs.declared.AfterWord.{AfterWord}
use Rattle.cut.specs.Cut.{cut_of, completed_of, inside_part, ended_of, held_of}
use Rattle.cut.specs.declared.Cut.{Cut}
use Rattle.monitor.specs.declared.Monitor.{Monitor}
use Rattle.settles_pointer.specs.Meant.{meant}
use Rattle.settles_pointer.proofs.Locks.{meant_goes, meant_adjusts}
use Rattle.settles_monitor.specs.Near.{Whole}
use Rattle.settles_stream.specs.InOrder.{boxes, violated_told}
use Rattle.settles_stream.specs.Inner.{watched_all, violated_all}
use Rattle.settles_stream.proofs.Seen.{seen_all, told_all}
use Rattle.settles_stream.proofs.Together.{goes_ended, goes_held, restart_held}
use Rattle.receiving.specs.Receiving.{UnitOutcome, monitor_in, from_in, begin_in, cut_in, received_normal}
use Rattle.unit_end.specs.Actions.{defects_of}
use Rattle.unit_end.specs.Settled.{settled_of, total_of}
use Rattle.sink.specs.Sink as sink
use Rattle.sink.specs.Sink.{sink_out_of_range, pointed, unit_outcome, told}
use Rattle.sink.proofs.Refuses.{ranged}
use Rattle.sink_theorems.specs.Reach as reach
use Rattle.sink_theorems.proofs.Ranges.{call_in_range}
use Rattle.sink_theorems.proofs.Handed.{called_is, handed_normal}
use Rattle.settles.specs.Demand.{Run, Path, sent, feeding, fed, path_after}
use Rattle.settles.proofs.Kept.{call_whole, call_total, call_done, call_held, call_buffer}

-- a path on which both ends can be called
pub record Ready (s : Shape) (r : Run) (x : Path) : Type 0 where
  pub source_fine : spaced.Fine s r.box x.source
  pub state_in : sink_out_of_range s x.state ≡ false
  pub total_low : x.state.total ≤ 65535
  pub whole : Whole x.state.monitor
  pub held_is : length x.held ≡ s.size
  pub done_is : length x.done ≡ s.size

-- settings that no number refuses
abbrev pub Settable : Run → Type 0
Settable r = settings_faults r.settings ≡ []

module _ (s : Shape) (f : Fit s) (r : Run) (set : Settable r) (x : Path) (a : Adjustment) (h : Ready s r x) (late : (adjusts a && ltb x.source.state.wait 3) ≡ false) where
  abbrev v : ℕ
  v = x.source.state.offset

  abbrev i : ℕ
  i = x.source.number

  abbrev unit : List ℕ
  unit = unit_sent s a v (r.box i) (r.box (i + 1))

  -- ---- no call is refused

  pub sent_is : sent s r x a ≡ record { made = record { answer = Ok tt; ended = ended_by a v; state = unit-source.unit_source_after s a x.source.state }; unit = unit }
  sent_is = spaced.call_done s f r.box x.source a h.source_fine late

  unit_is : (sent s r x a).unit ≡ unit
  unit_is = ap (λ (o : unit-source.MadeOutcome). o.unit) sent_is

  pub fed_done : (fed s r x a).received.answer ≡ Ok tt
  fed_done =
      call_done s x.state (feeding s r x a) h.state_in set
      (ap length unit_is ∙ spaced.unit_long s f r.box x.source a h.source_fine) h.held_is h.done_is

  -- ---- both ends can be called again

  pub source_after_lem : (path_after s r x a).source ≡ record { state = unit-source.unit_source_after s a x.source.state; number = i + ended_by a v; unit = unit }
  unfolding path_after stream.sending_after
  source_after_lem = rw sent_is

  pub ready_after : Ready s r (path_after s r x a)
  unfolding path_after
  ready_after =
      record {
        source_fine = spaced.fine_after s f r.box x.source a h.source_fine late;
        state_in = call_in_range s (feeding s r x a) x.state f h.state_in;
        total_low = call_total s x.state (feeding s r x a) h.total_low;
        whole = call_whole s x.state (feeding s r x a) h.whole;
        held_is = call_held s f x.state (feeding s r x a) fed_done;
        done_is = call_buffer s f x.state (feeding s r x a) fed_done;
      }

  -- ---- what is told at the unit's end

  -- how the word is taken, and the pointer after it
  abbrev t : AfterWord
  t = pointer_step x.state.pointer s.top (word_sent a v)

  pointed_is : pointed s x.state.pointer (sent s r x a).unit ≡ t
  unfolding pointed
  pointed_is = rw (unit_is, word_carried s a v (r.box i) (r.box (i + 1)) f)

  -- what the unit leaves
  abbrev l : UnitOutcome
  l = unit_outcome s x.state t r.settings unit x.held x.done

  fed_is : fed s r x a ≡ record { received = told t.pointer x.state.total l.after r.settings; held = l.held; done = l.done }
  fed_is =
      called_is s f x.state (feeding s r x a) fed_done
      ∙ ap₂ (λ (y : AfterWord) (u : List ℕ).
      let z = unit_outcome s x.state y r.settings u x.held x.done in
      record { received = told y.pointer x.state.total z.after r.settings; held = z.held; done = z.done })
      pointed_is unit_is

  pub pointer_after : (path_after s r x a).state.pointer ≡ t.pointer
  unfolding path_after told
  pointer_after = ap (λ (o : sink.ReceivedOutcome). o.received.state.pointer) fed_is

  monitor_left : (path_after s r x a).state.monitor ≡ l.after.monitor
  unfolding path_after told
  monitor_left = ap (λ (o : sink.ReceivedOutcome). o.received.state.monitor) fed_is

  -- "a unit ends settled if .."
  pub settled_is : (fed s r x a).received.settled ≡ settled_of (is_normal t.pointer.state) (path_after s r x a).state.monitor r.settings
  unfolding told
  settled_is =
      ap (λ (o : sink.ReceivedOutcome). o.received.settled) fed_is ∙ ap (λ (m : Monitor). settled_of (is_normal t.pointer.state) m r.settings) (sym monitor_left)

  pub total_after : (path_after s r x a).state.total ≡ total_of x.state.total (fed s r x a).received.settled
  unfolding path_after told
  total_after =
      ap (λ (o : sink.ReceivedOutcome). o.received.state.total) fed_is ∙ ap (total_of x.state.total) (sym (ap (λ (o : sink.ReceivedOutcome). o.received.settled) fed_is))

  pub defects_is : (fed s r x a).received.defects ≡ defects_of (path_after s r x a).state.monitor
  unfolding told
  defects_is = ap (λ (o : sink.ReceivedOutcome). o.received.defects) fed_is ∙ ap defects_of (sym monitor_left)

  -- ---- a unit that ends normal

  module _ (n : is_normal t.pointer.state ≡ true) where
    -- its cut
    abbrev k : Cut
    k = cut_in s t.taken (offset_of t.pointer.state) x.state.held

    left_is : l ≡ received_normal s t.taken (offset_of t.pointer.state) x.state.held x.state.monitor r.settings unit x.held x.done
    unfolding unit_outcome
    left_is = rw n

    pub held_after : (path_after s r x a).held ≡ held_of k unit x.held
    unfolding path_after received_normal
    held_after = ap (λ (o : sink.ReceivedOutcome). o.held) fed_is ∙ ap (λ (y : UnitOutcome). y.held) left_is

    -- the monitor has watched what ended, in order
    pub monitor_after : (path_after s r x a).state.monitor ≡ watched_all s.columns r.settings (monitor_in t.taken x.state.monitor) (ended_of s k unit x.held)
    unfolding received_normal ended_of
    monitor_after =
        monitor_left ∙ ap (λ (y : UnitOutcome). y.after.monitor) left_is ∙ seen_all s k (completed_of s k unit x.held) (inside_part s k unit) (monitor_in t.taken x.state.monitor) r.settings

    pub told_after_lem : violated_told (fed s r x a).received.ended ≡ violated_all s.columns r.settings (monitor_in t.taken x.state.monitor) (ended_of s k unit x.held)
    unfolding told received_normal ended_of
    told_after_lem =
        ap (λ (o : sink.ReceivedOutcome). violated_told o.received.ended) fed_is
        ∙ ap (λ (y : UnitOutcome). violated_told y.after.ended) left_is
        ∙ told_all s k (completed_of s k unit x.held) (inside_part s k unit) (monitor_in t.taken x.state.monitor) r.settings

    pub handed_after : reach.handed s (feeding s r x a) (fed s r x a) ≡ ended_of s k unit x.held
    handed_after =
        handed_normal s f x.state (feeding s r x a) fed_done (ap (λ (y : AfterWord). is_normal y.pointer.state) pointed_is ∙ n)
        ∙ ap₂ (λ (y : AfterWord) (u : List ℕ). ended_of s (cut_in s y.taken (offset_of y.pointer.state) x.state.held) u x.held) pointed_is unit_is

  -- ---- its word taken as it was meant, at the source's offset

  module _ (was : x.state.pointer.state ≡ Normal v) (taken_is : t.taken ≡ meant s.top a v) (now : t.pointer.state ≡ Normal (offset_after s.top a v)) where
    pub normal : is_normal t.pointer.state ≡ true
    unfolding is_normal
    normal = rw now

    held_count_lem : x.state.held ≡ held_count s v
    unfolding offset_of
    held_count_lem = rw was at (ranged s x.state h.state_in).held_is

    cut_is : k normal ≡ cut_of s (held_count s v) (run_from s.step a)
    unfolding begin_in from_in
    cut_is = rw (taken_is, meant_goes s.top a v, meant_adjusts s.top a v, held_count_lem)

    met_same : monitor_in t.taken x.state.monitor ≡ x.state.monitor
    met_same = rw (taken_is, meant_goes s.top a v)

    -- whatever was held, what is held then is what was sent of the current container
    pub held_goes : take (held_count s (offset_after s.top a v)) (path_after s r x a).held ≡ take (held_count s (offset_after s.top a v)) (r.box (i + ended_by a v))
    held_goes =
        ap (take (held_count s (offset_after s.top a v))) (held_after normal ∙ ap (λ (c : Cut). held_of c unit x.held) cut_is)
        ∙ goes_held s f r.box h.source_fine.full a v i x.held h.source_fine.offset_low

    -- and where it was before too, the unit hands back the containers that the source says ended
    module _ (together : take (held_count s v) x.held ≡ take (held_count s v) (r.box i)) where
      ended_is : ended_of s (k normal) unit x.held ≡ boxes r.box i (ended_by a v)
      ended_is =
          ap (λ (c : Cut). ended_of s c unit x.held) cut_is
          ∙ goes_ended s f r.box h.source_fine.full a v i x.held h.source_fine.offset_low together

      pub handed_goes : reach.handed s (feeding s r x a) (fed s r x a) ≡ boxes r.box i (ended_by a v)
      handed_goes = handed_after normal ∙ ended_is

      pub monitor_goes : (path_after s r x a).state.monitor ≡ watched_all s.columns r.settings x.state.monitor (boxes r.box i (ended_by a v))
      monitor_goes = monitor_after normal ∙ ap₂ (λ (m : Monitor) (cs : List (List ℕ)). watched_all s.columns r.settings m cs) met_same ended_is

      pub told_goes : violated_told (fed s r x a).received.ended ≡ violated_all s.columns r.settings x.state.monitor (boxes r.box i (ended_by a v))
      told_goes = told_after_lem normal ∙ ap₂ (λ (m : Monitor) (cs : List (List ℕ)). violated_all s.columns r.settings m cs) met_same ended_is

-- ---- a unit with no adjustment, taken by rule 3 at the source's offset

pub held_restarts : (s : Shape) (f : Fit s) (r : Run) (set : Settable r) (x : Path) (h : Ready s r x) (late : (adjusts Nothing && ltb x.source.state.wait 3) ≡ false)
    → (pointer_step x.state.pointer s.top (word_sent Nothing x.source.state.offset)).taken ≡ Resync x.source.state.offset
    → (pointer_step x.state.pointer s.top (word_sent Nothing x.source.state.offset)).pointer.state ≡ Normal x.source.state.offset
    → take (held_count s x.source.state.offset) (path_after s r x Nothing).held ≡ take (held_count s x.source.state.offset) (r.box (x.source.number + 1))
unfolding begin_in from_in is_normal offset_of restarts
held_restarts s f r set x h late taken_is now =
    let v = x.source.state.offset in
    let normal : is_normal (t s f r set x Nothing h late).pointer.state ≡ true = rw now in
    let cut_is : k s f r set x Nothing h late normal ≡ cut_of s 0 (3 * s.step + place_of s v) = rw (taken_is, now) in
    ap (take (held_count s v)) (held_after s f r set x Nothing h late normal ∙ ap (λ (c : Cut). held_of c (unit s f r set x Nothing h late) x.held) cut_is)
    ∙ restart_held s f r.box h.source_fine.full v x.source.number x.held h.source_fine.offset_low
