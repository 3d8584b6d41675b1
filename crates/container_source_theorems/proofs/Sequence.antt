-- A run of one container source with no call refused, of any shape that fits and from any state: which bytes J1 and B3 carry. Assumes nothing.
use mathlib.Core.Path.{◌≡◌, refl, sym, ap, ap₂, ◌∙◌}
use mathlib.Core.List.{List, ◌∷◌}
use Prim.Native.Nat.{ℕ, zero, suc, ◌+◌, ◌*◌, ◌%◌, ◌<◌, ◌≤◌}
use native.Mathlib.Nat.{add-zero, add-suc, zero-mul, one-mul}
use native.Mathlib.Omega.{arith}
use lib.ListN.{length, get_or, take, drop}
use lib.Seq.{drop-cons, take_all}
use Rattle.parity.specs.Parity.{parity_of}
use Rattle.trace_message.specs.Message.{message}
use Rattle.std.specs.Prelude.{Ok}
use Rattle.shape.specs.Shape.{Shape, Fit}
use Rattle.container.specs.Container.{overhead_in}
use Rattle.container.proofs.Places.{get_or_container, overhead_container}
use Rattle.container_source.specs.Overhead.{j1_of, g1_of, overhead_of}
use Rattle.container_source.specs.Source.{fresh_container_source, container_sent, container_source_after, SentOutcome}
use Rattle.container_source.specs.declared.State.{State}
use Rattle.container_source_theorems.specs.Run.{ContainerSourceCall, container_source_called, state_at, outcome_at, container_at}
use Rattle.container_source_theorems.specs.Bytes.{Unrefused, j1s, b3, Carries}
use Rattle.container_source_theorems.proofs.Refused.{some_columns, source_done, source_kept, source_sendable}

-- ---- one call that is not refused

module _ (s : Shape) (state : State) (c : ContainerSourceCall) (done : (container_source_called s state c).sent.answer ≡ Ok tt) where
  next_place : (container_source_called s state c).sent.state.place ≡ (state.place + 1) % 16
  unfolding container_source_after
  next_place =
      ap (λ (o : SentOutcome). o.sent.state.place) (source_done s state c.given c.trace c.payload c.lent done)

  -- the parity kept is that of the whole container, B3 among its bytes
  pub next_parity : (container_source_called s state c).sent.state.parity ≡ parity_of (container_source_called s state c).container
  unfolding container_source_after
  next_parity =
      let e = source_done s state c.given c.trace c.payload c.lent done in
      ap (λ (o : SentOutcome). o.sent.state.parity) e ∙ ap (λ (o : SentOutcome). parity_of o.container) (sym e)

  in_range : state.place ≤ 15
  in_range = (source_sendable s state c.given c.trace c.payload c.lent done).place_is

  module _ (f : Fit s) where
    -- the nine bytes of column 1
    pub overhead_sent : overhead_in s.columns (container_source_called s state c).container ≡ overhead_of state c.given c.trace
    unfolding container_sent overhead_of
    overhead_sent =
        ap (λ (o : SentOutcome). overhead_in s.columns o.container) (source_done s state c.given c.trace c.payload c.lent done)
        ∙ overhead_container s.columns (overhead_of state c.given c.trace) c.payload (some_columns s f) refl (source_sendable s state c.given c.trace c.payload c.lent done).payload_is

    -- the byte of row r
    pub overhead_at : (r : ℕ) → r < 9 → get_or (container_source_called s state c).container (r * s.columns) 0 ≡ get_or (overhead_of state c.given c.trace) r 0
    unfolding container_sent overhead_of
    overhead_at r h =
        ap (λ (o : SentOutcome). get_or o.container (r * s.columns) 0) (source_done s state c.given c.trace c.payload c.lent done)
        ∙ get_or_container s.columns (overhead_of state c.given c.trace) c.payload (some_columns s f) refl (source_sendable s state c.given c.trace c.payload c.lent done).payload_is r h

    j1_sent : get_or (container_source_called s state c).container 0 0 ≡ get_or (message c.trace) state.place 0
    unfolding overhead_of j1_of
    j1_sent = rw zero-mul at (overhead_at 0 (omega arith))

    b3_sent : b3 s (container_source_called s state c).container ≡ state.parity
    unfolding overhead_of
    b3_sent = rw one-mul at (overhead_at 1 (omega arith))

    pub carries : Carries s c.given (container_source_called s state c).container
    unfolding overhead_of g1_of
    carries =
        record {
          c2_is = overhead_at 2 (omega arith);
          g1_is = overhead_at 3 (omega arith);
          f2_is = overhead_at 4 (omega arith);
          h4_is = overhead_at 5 (omega arith);
          f3_is = overhead_at 6 (omega arith);
          k3_is = overhead_at 7 (omega arith);
          n1_is = overhead_at 8 (omega arith);
        }

-- ---- from call to call

module _ (s : Shape) (first : State) (calls : ℕ → ContainerSourceCall) (n : ℕ) (f : Fit s) (ok : Unrefused s first calls n) where
  -- the place in the message goes on by one, modulo 16
  pub place_at : (k : ℕ) → k < n → (state_at s first calls k).place ≡ (first.place + k) % 16
  unfolding state_at
  place_at zero l = omega (arith, in_range s first (calls 0) (ok 0 l))
  place_at (suc k) l =
      next_place s (state_at s first calls k) (calls k) (ok k (omega arith)) ∙ omega (arith, place_at k (omega arith))

  -- "J1 carries 16 bytes in turn": container k has the byte at the first place and k, modulo 16
  pub j1_in_turn : (trace : List ℕ) (k : ℕ) → k < n → (calls k).trace ≡ trace → get_or (container_at s first calls k) 0 0 ≡ get_or (message trace) ((first.place + k) % 16) 0
  j1_in_turn trace k l e =
      j1_sent s (state_at s first calls k) (calls k) (ok k l) f
      ∙ ap₂ (λ (t : List ℕ) (p : ℕ). get_or (message t) p 0) e (place_at k l)

  -- "B3 is the exclusive or of all 2349 bytes of the container before"
  pub b3_before : (k : ℕ) → suc k < n → b3 s (container_at s first calls (suc k)) ≡ parity_of (container_at s first calls k)
  unfolding state_at
  b3_before k l =
      b3_sent s (state_at s first calls (suc k)) (calls (suc k)) (ok (suc k) l) f
      ∙ next_parity s (state_at s first calls k) (calls k) (ok k (omega arith))

  -- in the first container of a run it is what the state kept
  pub b3_first : 0 < n → b3 s (container_at s first calls 0) ≡ first.parity
  unfolding state_at
  b3_first l = b3_sent s first (calls 0) (ok 0 l) f

  -- the other bytes of column 1 are those given
  pub carries_at : (k : ℕ) → k < n → Carries s (calls k).given (container_at s first calls k)
  carries_at k l = carries s (state_at s first calls k) (calls k) (ok k l) f

  -- with one trace
  module _ (trace : List ℕ) (fifteen : length trace ≡ 15) (one : (k : ℕ) → k < n → (calls k).trace ≡ trace) where
    -- up to the end of the message, J1 is what is left of it
    j1s_part : (m k p : ℕ) → k + m ≤ n → p + m ≤ 16 → (0 < m → (first.place + k) % 16 ≡ p) → j1s s first calls k m ≡ take m (drop p (message trace))
    unfolding j1s message
    j1s_part zero k p l h e = refl
    j1s_part (suc m) k p l h e =
        let q = e (omega arith) in
        let j : get_or (container_at s first calls k) 0 0 ≡ get_or (message trace) p 0 =
        j1_in_turn trace k (omega arith) (one k (omega arith)) ∙ ap (λ (i : ℕ). get_or (message trace) i 0) q
        in
        rw (drop-cons (message trace) p 0 (omega arith)) (ap₂ (λ (b : ℕ) (bs : List ℕ). b ∷ bs) j (j1s_part m (suc k) (suc p) (omega arith) (omega arith) (λ z. omega arith)))

    -- so J1 carries the message over and over: it stands whole in any 16 containers in turn, of which the first is at the start byte
    pub j1_over_and_over : (k : ℕ) → k + 16 ≤ n → (first.place + k) % 16 ≡ 0 → j1s s first calls k 16 ≡ message trace
    unfolding message
    j1_over_and_over k l e =
        j1s_part 16 k 0 l (omega arith) (λ z. e) ∙ take_all 16 (message trace) (omega arith)

-- ---- a fresh source

-- B3 is "00 in a source's first"
pub b3_fresh : (s : Shape) (calls : ℕ → ContainerSourceCall) (n : ℕ) → Fit s → Unrefused s fresh_container_source calls n → 0 < n → b3 s (container_at s fresh_container_source calls 0) ≡ 0
b3_fresh s calls n f ok l = b3_first s fresh_container_source calls n f ok l

-- "a fresh container source begins at the start byte": its first 16 containers carry the message, and so do each 16 after them
pub j1_fresh : (s : Shape) (calls : ℕ → ContainerSourceCall) (n : ℕ) → Fit s → Unrefused s fresh_container_source calls n → (trace : List ℕ) → length trace ≡ 15 → ((k : ℕ) → k < n → (calls k).trace ≡ trace) → (i : ℕ) → i * 16 + 16 ≤ n → j1s s fresh_container_source calls (i * 16) 16 ≡ message trace
j1_fresh s calls n f ok trace fifteen one i l =
    j1_over_and_over s fresh_container_source calls n f ok trace fifteen one (i * 16) l (omega arith)

-- ---- refused calls between

module _ (s : Shape) (first : State) (calls : ℕ → ContainerSourceCall) where
  -- they do not count: the state before call k + m is that before call k, where those from k on were refused
  pub refused_between : (k m : ℕ) → ((i : ℕ) → k ≤ i → i < k + m → (outcome_at s first calls i).sent.answer ≡ Ok tt → ⊥) → state_at s first calls (k + m) ≡ state_at s first calls k
  unfolding state_at
  refused_between k zero h = rw add-zero
  refused_between k (suc m) h =
      let c = calls (k + m) in
      rw add-suc
      ((source_kept s (state_at s first calls (k + m)) c.given c.trace c.payload c.lent (h (k + m) (omega arith) (omega arith))).0
      ∙ refused_between k m (λ i a b. h i a (omega arith)))

  -- B3 is the parity of the container sent last, call k's, however many calls were refused after it
  pub b3_past_refused :
      Fit s
      → (k m : ℕ)
      → (outcome_at s first calls k).sent.answer ≡ Ok tt
      → ((i : ℕ) → suc k ≤ i → i < suc k + m → (outcome_at s first calls i).sent.answer ≡ Ok tt → ⊥)
      → (outcome_at s first calls (suc k + m)).sent.answer ≡ Ok tt
      → b3 s (container_at s first calls (suc k + m)) ≡ parity_of (container_at s first calls k)
  unfolding state_at
  b3_past_refused f k m sent h again =
      b3_sent s (state_at s first calls (suc k + m)) (calls (suc k + m)) again f
      ∙ ap (λ (q : State). q.parity) (refused_between (suc k) m h)
      ∙ next_parity s (state_at s first calls k) (calls k) sent
