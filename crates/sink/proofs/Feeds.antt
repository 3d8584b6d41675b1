-- Laws of one unit: that its parts have what they ask for, and that they come to the definition. Assumes nothing.
use mathlib.Core.Path.{◌≡◌, refl, sym, ap, ◌∙◌}
use mathlib.Core.Bool.{Bool, true, false, cond, not, ◌&&◌}
use mathlib.Core.List.{List}
use Prim.Native.Nat.{ℕ, ◌≤◌, ◌<◌}
use native.Mathlib.Omega.{arith}
use lib.ListN.{length, get_or}
use Rattle.word.specs.Word.{word_of}
use Rattle.refusals.specs.Refusals.{answer_says, answer_of}
use Rattle.refusals.specs.declared.Refusal.{Refusal}
use Rattle.std.specs.Prelude.{Result, Ok, Err, ⊤}
use Rattle.refusals.proofs.Wrong.{outcome_done, outcome_refused, outcome_said}
use Rattle.shape.specs.Shape.{Shape, Fit}
use Rattle.pointer_rules.specs.Rules.{restarts, adjustment_of}
use Rattle.pointer_state.specs.declared.State as reading
use Rattle.pointer_state.specs.declared.State.TheVariants.{Normal, Alarm, Lost}
use Rattle.pointer_state.specs.State.{is_alarm, is_lost, is_normal, offset_of}
use Rattle.pointer.specs.Machine as pointer
use Rattle.pointer.specs.declared.Pointer.{Pointer}
use Rattle.pointer.specs.declared.AfterWord.{AfterWord}
use Rattle.pointer.proofs.Ranges.{offset_low, step_in_range}
use Rattle.cut.specs.Inner.{Line}
use Rattle.cut.proofs.Lines.{line_goes, line_restarts}
use Rattle.settings.specs.declared.Settings.{Settings}
use Rattle.receiving.specs.Receiving.{UnitOutcome, begin_in, from_in, silence}
use Rattle.receiving.specs.Inner.{Receivable, NormalOutcomeIs}
use Rattle.receiving.specs.declared.AfterUnit.{AfterUnit}
use Rattle.unit_end.specs.Terms.{termination}
use Rattle.unit_end.specs.Actions.{defects_of, ssf_of, actions_of, causes_of}
use Rattle.unit_end.specs.Settled.{settled_of, total_of}
use Rattle.unit_end.specs.declared.Defects.{Defects}
use Rattle.unit_end.specs.declared.Actions.{Actions}
use Rattle.unit_end.specs.declared.Causes.{Causes}
use Rattle.sink.specs.Sink.{sink_faults, word_in, pointed, unit_outcome, Received, told, received_by, refusing, ReceivedOutcome, sink, ReceivesAs, Receives}
use Rattle.sink.specs.Inner.{Fed, Pointed, UnitOutcomeIs}
use Rattle.sink.specs.declared.State.{State}
use Rattle.sink.proofs.Refuses.{Ranged, ranged, numbered, fed}

-- ---- the word

pub point_is : (s : Shape) (p : Pointer) (unit : List ℕ) (w : ℕ) (a : AfterWord) → w ≡ word_of (get_or unit 0 0) (get_or unit s.step 0) → a ≡ pointer.pointer_step p s.top w → a ≡ pointed s p unit
unfolding pointed
point_is s p unit w a h k = rw h at k

-- ---- what the unit's parts ask for

module _ (s : Shape) (state : State) (a : AfterWord) (unit held done : List ℕ) (p : Pointed s state a unit held done) where
  in_range : Ranged s state
  in_range = ranged s state p.fed.fine

  pub offset_is_low : offset_of a.pointer.state ≤ s.top
  unfolding pointed
  offset_is_low = rw p.after_is (offset_low s.top _ (step_in_range s.top state.pointer (word_in s unit) in_range.pointer_in))

  -- where it goes on, by whether it restarts
  line_by : (b : Bool) → restarts a.taken ≡ b
      → Line s (cond b 0 state.held) (from_in s b (adjustment_of a.taken) (offset_of a.pointer.state))
  unfolding from_in
  line_by true h = line_restarts s (offset_of a.pointer.state) p.fit offset_is_low
  line_by false h =
      rw in_range.held_is (line_goes s (adjustment_of a.taken) (offset_of state.pointer.state) p.fit (offset_low s.top state.pointer in_range.pointer_in))

  pub receivable : (offset : ℕ) (n : Bool) → offset ≡ offset_of a.pointer.state → n ≡ is_normal a.pointer.state → n ≡ true
      → Receivable s a.taken offset state.held unit held done
  unfolding begin_in
  receivable offset n o n-is h =
      record {
        low = rw o offset_is_low;
        line = rw o (line_by (restarts a.taken) refl);
        sizes = record { unit_is = p.fed.unit_is; held_is = p.fed.held_is; done_is = p.fed.done_is };
      }

  -- what it leaves
  pub leaves_normal : (e : Settings) (n : Bool) (offset : ℕ) (r : AfterUnit) (held' done' : List ℕ)
      → n ≡ is_normal a.pointer.state → n ≡ true → offset ≡ offset_of a.pointer.state
      → NormalOutcomeIs s a.taken offset state.held state.monitor e unit held done r held' done'
      → UnitOutcomeIs s state a e unit held done r held' done'
  unfolding unit_outcome
  leaves_normal e n offset r held' done' n-is h o l = rw (← n-is, h, ← o) l

  pub leaves_silence : (e : Settings) (n : Bool) (r : AfterUnit) → n ≡ is_normal a.pointer.state → n ≡ false → r ≡ silence
      → UnitOutcomeIs s state a e unit held done r held done
  unfolding unit_outcome
  leaves_silence e n r n-is h r-is = rw (← n-is, h, r-is) refl

-- ---- what is told

lost_is : (x : reading.State) → (not (is_normal x) && not (is_alarm x)) ≡ is_lost x
unfolding is_normal is_alarm is_lost
lost_is (Normal v) = refl
lost_is Alarm = refl
lost_is Lost = refl

ssf_is : (x : reading.State) → not (is_normal x) ≡ ssf_of (is_alarm x) (is_lost x)
unfolding is_normal is_alarm is_lost
ssf_is (Normal v) = refl
ssf_is Alarm = refl
ssf_is Lost = refl

pub unit_told : (p : Pointer) (total : ℕ) (left : AfterUnit) (e : Settings)
    (normal alarm settled : Bool) (defects : Defects) (actions : Actions) (causes : Causes) (after : ℕ)
    → normal ≡ is_normal p.state → alarm ≡ is_alarm p.state → defects ≡ defects_of left.monitor
    → settled ≡ settled_of normal left.monitor e → after ≡ total_of total settled
    → actions ≡ actions_of termination (not normal) defects → causes ≡ causes_of termination alarm (not normal && not alarm) defects e.flags
    → received_by (Ok (record { ended = left.ended; actions = actions; defects = defects; causes = causes; settled = settled })) (record { pointer = p; held = left.held; monitor = left.monitor; total = after })
    ≡ told p total left e
unfolding told received_by
unit_told p total left e normal alarm settled defects actions causes after n a d s t c k =
    let lost = ap (λ (b : Bool). not b && not (is_alarm p.state)) n ∙ lost_is p.state in
    let ssf = ap not n ∙ ssf_is p.state in
    rw (k, c, t, s, d, a, lost, ssf, n) refl

-- ---- the call

module _ (s : Shape) (state : State) (e : Settings) (unit held done : List ℕ)
    (r : Result ⊤ Refusal) (r-is : r ≡ answer_of (sink_faults s state e (length unit) (length held) (length done)))
  where
    pub feed_refused : (x : Refusal) → r ≡ Err x → ReceivesAs s state e unit held done (received_by (Err x) state) held done
    unfolding sink received_by
    feed_refused x h = rw (outcome_refused (sink_faults s state e (length unit) (length held) (length done)) _ _ x (sym r-is ∙ h)) refl

    -- nothing is wrong with it
    pub feed_fine : r ≡ Ok tt → Fed s state (length unit) (length held) (length done)
    feed_fine h = fed s state e (length unit) (length held) (length done) (sym r-is ∙ h)

    -- so that its word is there
    pub word_there : Fit s → r ≡ Ok tt → s.step < length unit
    word_there f h = omega (arith, (feed_fine h).unit_is, f.some, f.two)

    module _ (h : r ≡ Ok tt) (a : AfterWord) (a-is : a ≡ pointed s state.pointer unit) where
      pub feed_pointed : Fit s → Pointed s state a unit held done
      feed_pointed f = record { fit = f; fed = feed_fine h; after_is = a-is }

      pub feed_done : (left : AfterUnit) (held' done' : List ℕ) (q : Received) → UnitOutcomeIs s state a e unit held done left held' done' → q ≡ told a.pointer state.total left e
          → ReceivesAs s state e unit held done q held' done'
      unfolding sink
      feed_done left held' done' q l q-is =
          let left_is = ap (λ (x : UnitOutcome). x.after) l in
          let held_is = ap (λ (x : UnitOutcome). x.held) l in
          let done_is = ap (λ (x : UnitOutcome). x.done) l in
          rw (outcome_done (sink_faults s state e (length unit) (length held) (length done)) _ _ (sym r-is ∙ h), ← a-is, ← left_is, ← held_is, ← done_is, q-is) refl

-- the answer says the table's number
pub feed_said : (s : Shape) (state : State) (e : Settings) (unit held done : List ℕ) (r : Received) (held' done' : List ℕ)
    → ReceivesAs s state e unit held done r held' done' → Receives s state e unit held done r held' done'
unfolding sink told refusing
feed_said s state e unit held done r held' done' p =
    let n = numbered s state e (length unit) (length held) (length done) in
    record {
      number_is = ap (λ (o : ReceivedOutcome). answer_says o.received.answer) p ∙ outcome_said (λ (o : ReceivedOutcome). o.received.answer) _ _ _ n refl (λ x. refl);
      outcome_is = p;
    }

-- the shape is fixed by the entry point
pub feed_as : (s t : Shape) (state : State) (e : Settings) (unit held done : List ℕ) (r : Received) (held' done' : List ℕ)
    → s ≡ t → ReceivesAs s state e unit held done r held' done' → Receives t state e unit held done r held' done'
feed_as s t state e unit held done r held' done' h p = feed_said t state e unit held done r held' done' (rw h at p)
