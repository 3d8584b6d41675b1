-- What a call of the source has to show at each of its ends, and what a call with nothing wrong has shown. Assumes nothing.
use mathlib.Core.Path.{◌≡◌, refl, sym, ap, ◌∙◌}
use mathlib.Core.Bool.{not}
use mathlib.Core.List.{List, [], ◌++◌}
use Prim.Native.Nat.{ℕ, ◌+◌, ◌*◌, ◌-◌, ◌%◌, ◌^◌, ◌<◌, ◌≤◌}
use native.Mathlib.Omega.{arith}
use lib.Dec.{eqb, ltb}
use lib.ListN.{length}
use borrow.Author.Tests.{lt-ltb, le-ltb, eq-eqb, ne_eqb, eqb-true, not-false, ltb-false}
use Rattle.parity.specs.Parity.{parity_of}
use Rattle.settings.specs.Faults.{path_faults}
use Rattle.settings.proofs.Refuses.{path_numbered}
use Rattle.refusals.specs.Refusals.{Fault, given, due, number_of, says, answer_says, answer_of}
use Rattle.refusals.specs.declared.Refusal.{Refusal}
use Rattle.refusals.specs.declared.Refusal.TheVariants as wrong
use Rattle.std.specs.Prelude.{Result, Ok, Err, ⊤}
use Rattle.refusals.proofs.Wrong.{due_none, due_false, none_wrong, outcome_done, outcome_refused, Numbered, numbered_row, numbered_both, numbered_last, outcome_said}
use Rattle.refusals.proofs.Joined.{joined_refused, joined_done, joined_none}
use Rattle.shape.specs.Shape.{Shape, Fit}
use Rattle.container.specs.Container.{payload_size, rows_of}
use Rattle.container_source.specs.Overhead.{overhead_of}
use Rattle.container_source.specs.Source.{send_faults, container_sent, container_source_after, Sent, SentOutcome, container_source, SendsAs, Sends}
use Rattle.container_source.specs.declared.State.{State}
use Rattle.container_source.specs.declared.Given.{Given}

-- no row of the table applies
pub record Sendable (s : Shape) (place label : ℕ) (trace : List ℕ) (payload container violations : ℕ) : Type 0 where
  pub place_is : place ≤ 15
  pub path_is : path_faults label trace ≡ []
  pub payload_is : payload ≡ payload_size s.columns
  pub container_is : container ≡ s.size
  pub violations_is : violations ≤ 8

-- ---- the answer, by the tests that led to it

module _ (s : Shape) (place label : ℕ) (trace : List ℕ) (payload container violations : ℕ) where
  abbrev faults : List (Fault Refusal)
  faults = send_faults s place label trace payload container violations

  -- what is asked after label and trace
  abbrev lengths : List (Fault Refusal)
  lengths =
      given 2 wrong.Payload (not (eqb payload (payload_size s.columns)))
      ++ (given 3 wrong.Container (not (eqb container s.size))
      ++ given 6 wrong.Violations (ltb 8 violations))

  pub answer_state : 15 < place → Err wrong.State ≡ answer_of faults
  unfolding send_faults due answer_of
  answer_state h = rw (lt-ltb 15 place h)

  module _ (in_range : place ≤ 15) where
    path_next : answer_of faults ≡ answer_of (path_faults label trace ++ lengths)
    unfolding send_faults due
    path_next = rw (le-ltb 15 place in_range) refl

    module _ (r : Result ⊤ Refusal) (is-r : r ≡ answer_of (path_faults label trace)) where
      pub answer_path : (x : Refusal) → r ≡ Err x → Err x ≡ answer_of faults
      answer_path x h = sym (path_next ∙ joined_refused (path_faults label trace) lengths x (sym is-r ∙ h))

      module _ (r-no : r ≡ Ok tt) where
        lengths_next : answer_of faults ≡ answer_of lengths
        lengths_next = path_next ∙ joined_done (path_faults label trace) lengths (sym is-r ∙ r-no)

        pub answer_payload : (width : ℕ) → width ≡ 9 * (s.columns - 1) → (payload ≡ width → ⊥) → Err wrong.Payload ≡ answer_of faults
        unfolding due answer_of
        answer_payload width w h = sym (lengths_next ∙ rw (ne_eqb payload (9 * (s.columns - 1)) (rw w at h)) refl)

        module _ (width : ℕ) (width_is : width ≡ 9 * (s.columns - 1)) (payload_is : payload ≡ width) where
          full : payload ≡ 9 * (s.columns - 1)
          full = payload_is ∙ width_is

          pub answer_container : (container ≡ s.size → ⊥) → Err wrong.Container ≡ answer_of faults
          unfolding due answer_of
          answer_container h = sym (lengths_next ∙ rw (eq-eqb payload (9 * (s.columns - 1)) full, ne_eqb container s.size h) refl)

          module _ (room : container ≡ s.size) where
            pub answer_violations : 8 < violations → Err wrong.Violations ≡ answer_of faults
            unfolding due answer_of
            answer_violations h =
                sym (lengths_next ∙ rw (eq-eqb payload (9 * (s.columns - 1)) full, eq-eqb container s.size room, lt-ltb 8 violations h) refl)

            pub answer_done : violations ≤ 8 → Ok tt ≡ answer_of faults
            unfolding due answer_of
            answer_done h =
                sym (lengths_next ∙ rw (eq-eqb payload (9 * (s.columns - 1)) full, eq-eqb container s.size room, le-ltb 8 violations h) refl)

  -- a call that is done had nothing wrong with it
  pub sendable : (a : Result ⊤ Refusal) → a ≡ answer_of faults → a ≡ Ok tt → Sendable s place label trace payload container violations
  unfolding send_faults
  sendable a e d =
      let p1 = due_none (ltb 15 place) _ _ (none_wrong faults cc) in
      let p2 = joined_none (path_faults label trace) lengths p1.1 in
      let p4 = due_none (not (eqb payload (payload_size s.columns))) _ _ p2.1 in
      let p5 = due_none (not (eqb container s.size)) _ _ p4.1 in
      let p6 = due_false (ltb 8 violations) _ p5.1 in
      record {
        place_is = ltb-false 15 place p1.0;
        path_is = p2.0;
        payload_is = eqb-true payload (payload_size s.columns) (not-false (eqb payload (payload_size s.columns)) p4.0);
        container_is = eqb-true container s.size (not-false (eqb container s.size) p5.0);
        violations_is = ltb-false 8 violations p6;
      }

-- ---- the ends of `send`

module _ (s : Shape) (state : State) (g : Given) (trace payload before : List ℕ) (a : Result ⊤ Refusal) (is : a ≡ answer_of (send_faults s state.place g.label trace (length payload) (length before) g.violations)) where
  -- refused: the state and the container as they were
  pub send_refused : (x : Refusal) → a ≡ Err x → SendsAs s state g trace payload before (record { answer = Err x; state = state }) before
  unfolding container_source
  send_refused x e =
      rw (outcome_refused (send_faults s state.place g.label trace (length payload) (length before) g.violations) _ _ x cc)

  -- nothing is wrong: `overhead` and `rows` have what they ask for, and the next place is a byte
  module _ (done : a ≡ Ok tt) where
    fine : Sendable s state.place g.label trace (length payload) (length before) g.violations
    fine = sendable s state.place g.label trace (length payload) (length before) g.violations a is done

    pub sent_place : state.place ≤ 15
    sent_place = fine.place_is

    pub sent_violations : g.violations ≤ 8
    sent_violations = fine.violations_is

    pub sent_payload : length payload ≡ 9 * (s.columns - 1)
    sent_payload = fine.payload_is

    pub sent_container : Fit s → length before ≡ length payload + 9
    sent_container f = omega (arith, f.nine, f.some, f.two, fine.payload_is, fine.container_is)

    pub next_fits : state.place + 1 < 2 ^ 8
    next_fits = omega (arith, fine.place_is)

  -- sent: what the calls in it show, put together
  pub send_done :
      (overhead after : List ℕ) (parity : ℕ) →
      a ≡ Ok tt
      → overhead ≡ overhead_of state g trace
      → after ≡ rows_of (s.columns - 1) overhead payload
      → parity ≡ parity_of after
      → SendsAs s state g trace payload before (record { answer = Ok tt; state = record { place = (state.place + 1) % 16; parity = parity } }) after
  unfolding container_source container_source_after container_sent
  send_done overhead after parity d o r p =
      rw (outcome_done (send_faults s state.place g.label trace (length payload) (length before) g.violations) _ _ cc, p, r, o)

-- ---- the end of `container_source`

-- each row has its case's number
pub send_numbered : (s : Shape) (place label : ℕ) (trace : List ℕ) (payload container violations : ℕ) → Numbered says (send_faults s place label trace payload container violations)
unfolding send_faults says number_of
send_numbered s place label trace payload container violations = search (numbered_row, numbered_both, numbered_last, path_numbered) depth 8

-- so the answer says the table's
pub send_said : (s : Shape) (state : State) (g : Given) (trace payload before : List ℕ) (r : Sent) (after : List ℕ) → SendsAs s state g trace payload before r after → Sends s state g trace payload before r after
unfolding container_source
send_said s state g trace payload before r after h =
    let n = send_numbered s state.place g.label trace (length payload) (length before) g.violations in
    record {
      number_is = ap (λ (o : SentOutcome). answer_says o.sent.answer) h ∙ outcome_said (λ (o : SentOutcome). o.sent.answer) _ _ _ n refl (λ x. refl);
      outcome_is = h;
    }

-- one shape for another
pub send_as : (s t : Shape) (state : State) (g : Given) (trace payload before : List ℕ) (r : Sent) (after : List ℕ) → s ≡ t → SendsAs s state g trace payload before r after → Sends t state g trace payload before r after
send_as s t state g trace payload before r after e h = send_said t state g trace payload before r after (rw e at h)
