-- What the payload call has to show at each of its ends, and what a call with nothing wrong has shown. Assumes nothing.
use mathlib.Core.Path.{◌≡◌, refl, ap, ◌∙◌}
use mathlib.Core.Bool.{Bool, true, false, not}
use mathlib.Core.List.{List}
use Prim.Native.Nat.{ℕ, ◌+◌, ◌*◌, ◌-◌}
use native.Mathlib.Omega.{arith}
use lib.Dec.{eqb}
use lib.ListN.{length, replicate}
use borrow.Author.Tests.{eq-eqb, ne_eqb, eqb-true, not-false}
use Rattle.refusals.specs.Refusals.{due, given, number_of, says, answer_says, answer_of}
use Rattle.refusals.specs.declared.Refusal.{Refusal}
use Rattle.refusals.specs.declared.Refusal.TheVariants.{Container, Payload}
use Rattle.std.specs.Prelude.{Result, Ok, Err, ⊤}
use Rattle.refusals.proofs.Wrong.{due_none, due_false, none_wrong, outcome_done, outcome_refused, Numbered, numbered_row, numbered_last, outcome_said}
use Rattle.shape.specs.Shape.{Shape, Fit}
use Rattle.container.specs.Container.{payload_size, payload_in}
use Rattle.container.specs.Payload.{payload_faults, payload_handed, Handed, payload_call, HandsAs, Hands}

-- no row of the table applies: n bytes of container and m of payload
pub record Handable (s : Shape) (n m : ℕ) : Type 0 where
  pub container_is : n ≡ s.size
  pub payload_is : m ≡ payload_size s.columns

-- ---- the answer, by the tests that led to it

module _ (s : Shape) (n m : ℕ) where
  pub answer_container : (n ≡ s.size → ⊥) → Err Container ≡ answer_of (payload_faults s n m)
  unfolding payload_faults due answer_of
  answer_container h = rw (ne_eqb n s.size h)

  pub answer_payload : (width : ℕ) → n ≡ s.size → width ≡ 9 * (s.columns - 1) → (m ≡ width → ⊥) → Err Payload ≡ answer_of (payload_faults s n m)
  unfolding payload_faults due answer_of
  answer_payload width h w k = rw (eq-eqb n s.size h, ne_eqb m (9 * (s.columns - 1)) (rw w at k))

  pub answer_done : (width : ℕ) → n ≡ s.size → width ≡ 9 * (s.columns - 1) → m ≡ width → Ok tt ≡ answer_of (payload_faults s n m)
  unfolding payload_faults due answer_of
  answer_done width h w k = rw (eq-eqb n s.size h, eq-eqb m (9 * (s.columns - 1)) (k ∙ w))

  -- a call that is done had nothing wrong with it
  pub handable : (a : Result ⊤ Refusal) → a ≡ answer_of (payload_faults s n m) → a ≡ Ok tt → Handable s n m
  unfolding payload_faults
  handable a e d =
      let none = none_wrong (payload_faults s n m) (cc) in
      let p = due_none (not (eqb n s.size)) _ (given 2 Payload (not (eqb m (payload_size s.columns)))) none in
      let q = due_false (not (eqb m (payload_size s.columns))) _ p.1 in
      record {
        container_is = eqb-true n s.size (not-false (eqb n s.size) p.0);
        payload_is = eqb-true m (payload_size s.columns) (not-false (eqb m (payload_size s.columns)) q);
      }

-- ---- the ends of `hand`

module _ (s : Shape) (container : List ℕ) (ais : Bool) (before : List ℕ) (a : Result ⊤ Refusal) (is : a ≡ answer_of (payload_faults s (length container) (length before))) where
  -- refused: the payload as it was
  pub hand_refused : (x : Refusal) → a ≡ Err x → HandsAs s container ais before (Err x) before
  unfolding payload_call
  hand_refused x e = rw (outcome_refused (payload_faults s (length container) (length before)) _ _ x cc)

  -- nothing is wrong: `strip` has the lengths it asks for
  module _ (done : a ≡ Ok tt) where
    fine : Handable s (length container) (length before)
    fine = handable s (length container) (length before) a is done

    pub strip_payload : length before ≡ 9 * (s.columns - 1)
    strip_payload = fine.payload_is

    pub strip_container : Fit s → length container ≡ length before + 9
    strip_container f = omega (arith, f.nine, f.some, f.two, fine.container_is, fine.payload_is)

  module _ (done : a ≡ Ok tt) (after : List ℕ) where
    granted : after ≡ payload_handed s container ais → HandsAs s container ais before (Ok tt) after
    unfolding payload_call
    granted e = rw (outcome_done (payload_faults s (length container) (length before)) _ _ cc, e)

    -- all ones were written
    pub hand_ones : ais ≡ true → after ≡ replicate (length before) 0xff → HandsAs s container ais before (Ok tt) after
    unfolding payload_handed
    hand_ones q e =
        granted (rw q (e ∙ ap (λ (n : ℕ). replicate n 0xff) (handable s (length container) (length before) a is done).payload_is))

    -- the payload was written
    pub hand_payload : ais ≡ false → after ≡ payload_in s.columns container → HandsAs s container ais before (Ok tt) after
    unfolding payload_handed
    hand_payload q e = granted (rw q e)

-- ---- the ends of `payload_call`

-- each row has its case's number
pub payload_numbered : (s : Shape) (n m : ℕ) → Numbered says (payload_faults s n m)
unfolding payload_faults says number_of
payload_numbered s n m = search (numbered_row, numbered_last)

-- so the answer says the table's
pub hand_said : (s : Shape) (container : List ℕ) (ais : Bool) (before : List ℕ) (r : Result ⊤ Refusal) (after : List ℕ) → HandsAs s container ais before r after → Hands s container ais before r after
unfolding payload_call
hand_said s container ais before r after h =
    let n = length container in
    let m = length before in
    record {
      number_is = ap (λ (o : Handed). answer_says o.answer) h ∙ outcome_said (λ (o : Handed). o.answer) (payload_faults s n m) _ _ (payload_numbered s n m) refl (λ x. refl);
      outcome_is = h;
    }

-- one shape for another
pub hand_as : (s t : Shape) (container : List ℕ) (ais : Bool) (before : List ℕ) (r : Result ⊤ Refusal) (after : List ℕ) → s ≡ t → HandsAs s container ais before r after → Hands t container ais before r after
hand_as s t container ais before r after e h = hand_said t container ais before r after (rw e at h)
