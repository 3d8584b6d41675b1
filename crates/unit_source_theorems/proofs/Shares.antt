-- What a source's units carry is its containers, in order, none lost or doubled; and it counts right how many ended. Assumes nothing.
use mathlib.Core.Path.{◌≡◌, refl, sym, ap, ◌∙◌}
use mathlib.Core.List.{List, [], ◌∷◌, ◌++◌, append-nil, append_assoc}
use Prim.Native.Nat.{ℕ, zero, suc, ◌≤◌, ◌<◌, ◌-◌, ◌+◌, ◌*◌}
use native.Mathlib.Nat.{add-zero, zero-add, add-mul, suc-mul, suc-add, zero-mul, mul-le-mul_right}
use native.Mathlib.Omega.{arith}
use lib.ListN.{length, take, drop, length-append, length-take, take-append-drop}
use lib.Seq.{take_all, take-append-le, take-append-add, drop_at, length-take-le}
use mathlib.Core.Bool.{Bool, true, false}
use lib.Dec.{eqb, ltb}
use borrow.Author.Tests.{ltb-true, ltb-false}
use Rattle.laws.proofs.Tests.{by_test}
use Rattle.refusals.specs.Refusals.{answer_of}
use Rattle.refusals.specs.declared.Refusal.{Refusal}
use Rattle.std.specs.Prelude.{Result, Ok, Err, ⊤}
use Rattle.shape.specs.Shape.{Shape, Fit, unit_length, held_count, offset_after, run_from, ended_by}
use Rattle.shape.specs.declared.Adjustment.{Adjustment}
use Rattle.shape.specs.declared.Adjustment.TheVariants.{Nothing, Increment, Decrement}
use Rattle.shape.proofs.Offsets.{held_low, run_begins}
use Rattle.shape.proofs.Balance.{balance}
use Rattle.unit.specs.Unit.{head_of, run_of}
use Rattle.unit.proofs.Writing.{length_head}
use Rattle.unit_source.specs.Source.{MadeOutcome, make_faults, word_sent, unit_sent, unit_source_after}
use Rattle.unit_source.specs.Inner.{Ready}
use Rattle.unit_source.proofs.Answers.{makable, source_done, source_refused}
use Rattle.unit_source_theorems.specs.Sending.{Sending, unit_source_called, sending_after}
use Rattle.unit_source_theorems.specs.Stream.{share_in, share, under_way, at_end, shares, ended, joined, LastSent}

-- ---- the bytes of two containers, cut after k of them

pub take_past : (x y : List ℕ) (n m : ℕ) → length x + m ≡ n → take n (x ++ y) ≡ x ++ take m y
take_past x y n m e = ap (λ (j : ℕ). take j (x ++ y)) (sym e) ∙ take-append-add x y m

-- what was sent, and the run after it, is a beginning of both containers
run_joined : (b c : List ℕ) (n room : ℕ) → n ≤ length b → take n b ++ run_of room n b c ≡ take (n + room) (b ++ c)
unfolding run_of
run_joined b c n room h =
    let l : length (take n b) + room ≡ n + room = ap (λ (j : ℕ). j + room) (length-take-le n b h) in
    sym (take_past (take n b) (drop n b ++ c) (n + room) room l)
    ∙ ap (take (n + room)) (sym (append_assoc (take n b) (drop n b) c) ∙ ap (λ (x : List ℕ). x ++ c) (take-append-drop n b))

module _ (box : ℕ → List ℕ) (i z : ℕ) (b-long : length (box i) ≡ z) (c-long : length (box (i + 1)) ≡ z) where
  cut_both : (k m n : ℕ) → n ≡ k * z + m → n ≤ z + z → m < z → take n (box i ++ box (i + 1)) ≡ joined box i k ++ take m (box (i + k))
  unfolding joined
  cut_both zero m n e l h =
      let q : n ≡ m = omega arith in
      rw (q, add-zero i) (take-append-le m (box i) (box (i + 1)) (omega arith))
  cut_both (suc zero) m n e l h =
      take_past (box i) (box (i + 1)) n m (omega arith) ∙ ap (λ (x : List ℕ). x ++ take m (box (i + 1))) (sym (append-nil (box i)))
  cut_both (suc (suc zero)) m n e l h =
      let q : m ≡ 0 = omega arith in
      rw q (take_all n (box i ++ box (i + 1)) (simp length-append (omega arith)) ∙ simp append-nil)
  cut_both (suc (suc (suc k))) m n e l h =
      absurd (omega (arith, suc-mul (suc (suc k)) z, suc-mul (suc k) z, suc-mul k z))

  -- as many bytes as k containers have, where there are two at most
  length_both : (k : ℕ) → k ≤ 2 → length (joined box i k) ≡ k * z
  unfolding joined
  length_both zero h = sym (zero-mul z)
  length_both (suc zero) h = simp append-nil (omega arith)
  length_both (suc (suc zero)) h = simp (append-nil, length-append) (omega arith)
  length_both (suc (suc (suc k))) h = absurd (omega arith)

-- a containers, and the b after them
pub joined_joined : (box : ℕ → List ℕ) (i a b : ℕ) → joined box i a ++ joined box (i + a) b ≡ joined box i (a + b)
unfolding joined
joined_joined box i zero b = rw (add-zero i, zero-add b)
joined_joined box i (suc a) b =
    let e : i + suc a ≡ i + 1 + a = omega arith in
    rw (e, suc-add a b) (append_assoc (box i) (joined box (i + 1) a) (joined box (i + 1 + a) b) ∙ ap (λ (l : List ℕ). box i ++ l) (joined_joined box (i + 1) a b))

-- ---- one call

ended_few : (a : Adjustment) (v : ℕ) → ended_by a v ≤ 2
unfolding ended_by
ended_few Nothing v = omega arith
ended_few Increment v = by_test (λ (n : ℕ). n ≤ 2) (eqb v 0) (λ _. omega arith) (λ _. omega arith)
ended_few Decrement v = by_test (λ (n : ℕ). n ≤ 2) (eqb v 1) (λ _. omega arith) (λ _. omega arith)

-- a unit from where its run begins
pub unit_run : (s : Shape) (a : Adjustment) (v : ℕ) (current next : List ℕ) → Fit s
    → drop (run_from s.step a) (unit_sent s a v current next) ≡ run_of (unit_length s - run_from s.step a) (held_count s v) current next
unfolding unit_sent
unit_run s a v current next f =
    let from = run_from s.step a in
    let behind = (run_begins s.step a).behind in
    drop_at (head_of s.step (word_sent a v) from) (run_of (unit_length s - from) (held_count s v) current next) from
    (length_head s.step (word_sent a v) from f.some behind)

module _ (s : Shape) (f : Fit s) (box : ℕ → List ℕ) where
  -- what a call that left o carried, whether it was done or refused
  pub record Carried (x : Sending) (a : Adjustment) (o : MadeOutcome) : Type 0 where
    pub bytes : under_way s box x ++ share_in s box a o.made.answer o.unit
        ≡ joined box x.number o.made.ended ++ take (held_count s o.made.state.offset) (box (x.number + o.made.ended))
    pub whole : length (joined box x.number o.made.ended) ≡ o.made.ended * s.size

  -- a unit that was written: its run goes on where the last one stopped
  unit_carried : (x : Sending) (a : Adjustment) (l : ℕ) → Ready s x.state.offset (length (box x.number)) (length (box (x.number + 1))) l
      → Carried x a (record { made = record { answer = Ok tt; ended = ended_by a x.state.offset; state = unit_source_after s a x.state }; unit = unit_sent s a x.state.offset (box x.number) (box (x.number + 1)) })
  unfolding share_in unit_source_after
  unit_carried x a l r =
      let v = x.state.offset in
      let b = box x.number in
      let c = box (x.number + 1) in
      let from = run_from s.step a in
      let begins = run_begins s.step a in
      let n = held_count s v in
      let room = unit_length s - from in
      let low = held_low s v f in
      let then = held_low s (offset_after s.top a v) f in
      let e = balance s a v f r.offset_low in
      let k = ended_few a v in
      record {
        bytes =
            ap (λ (y : List ℕ). take n b ++ y) (unit_run s a v b c f)
            ∙ run_joined b c n room (omega (arith, low, r.current_is))
            ∙ cut_both box x.number s.size r.current_is r.next_is (ended_by a v) (held_count s (offset_after s.top a v)) (n + room) (omega (arith, e, begins.before, f.two)) (omega (arith, low, begins.behind, f.two)) (omega (arith, then, f.some));
        whole = length_both box x.number s.size r.current_is r.next_is (ended_by a v) k;
      }

  -- a refused call: no unit, and all as it was
  refused_carried : (x : Sending) (a : Adjustment) (y : Refusal) → Carried x a (record { made = record { answer = Err y; ended = 0; state = x.state }; unit = x.unit })
  unfolding share_in joined
  refused_carried x a y = record { bytes = append-nil (under_way s box x) ∙ rw add-zero; whole = sym (zero-mul s.size) }

  call_carried : (x : Sending) (a : Adjustment) → Carried x a (unit_source_called s box x a)
  call_carried x a = go (answer_of (make_faults s x.state a (length b) (length c) (length x.unit))) refl
    where
      b : List ℕ
      b = box x.number

      c : List ℕ
      c = box (x.number + 1)

      go : (r : Result ⊤ Refusal) → answer_of (make_faults s x.state a (length b) (length c) (length x.unit)) ≡ r → Carried x a (unit_source_called s box x a)
      go (Ok tt) e =
          rw (source_done s x.state a b c x.unit e) (unit_carried x a (length x.unit) (makable s x.state a (length b) (length c) (length x.unit) e).ready)
      go (Err y) e = rw (source_refused s x.state a b c x.unit y e) (refused_carried x a y)

  -- ---- THE STREAM

  -- What was sent of the current container, and all that a row of calls carries after it, are the containers that it said ended, in order and whole,
  -- and then what is under way of the next. For every state, containers and lent unit, and every row of requests: a call that is refused is no unit, and carries nothing.
  pub shares_joined : (x : Sending) (row : List Adjustment)
      → under_way s box x ++ shares s box x row ≡ joined box x.number (ended s box x row) ++ under_way s box (at_end s box x row)
  unfolding shares ended at_end sending_after joined
  shares_joined x [] = append-nil (under_way s box x)
  shares_joined x (a ∷ row) =
      let y = sending_after s box x a in
      let k = (unit_source_called s box x a).made.ended in
      sym (append_assoc (under_way s box x) (share s box x a) (shares s box y row))
      ∙ ap (λ (l : List ℕ). l ++ shares s box y row) (call_carried x a).bytes
      ∙ append_assoc (joined box x.number k) (under_way s box y) (shares s box y row)
      ∙ ap (λ (l : List ℕ). joined box x.number k ++ l) (shares_joined y row)
      ∙ sym (append_assoc (joined box x.number k) (joined box (x.number + k) (ended s box y row)) (under_way s box (at_end s box y row)))
      ∙ ap (λ (l : List ℕ). l ++ under_way s box (at_end s box y row)) (joined_joined box x.number k (ended s box y row))

  -- the containers that ended have their bytes
  joined_long : (x : Sending) (row : List Adjustment) → length (joined box x.number (ended s box x row)) ≡ ended s box x row * s.size
  unfolding ended sending_after joined
  joined_long x [] = sym (zero-mul s.size)
  joined_long x (a ∷ row) =
      let y = sending_after s box x a in
      let k = (unit_source_called s box x a).made.ended in
      ap length (sym (joined_joined box x.number k (ended s box y row)))
      ∙ length-append (joined box x.number k) (joined box (x.number + k) (ended s box y row))
      ∙ omega (arith, (call_carried x a).whole, joined_long y row, add-mul k (ended s box y row) s.size)

  -- so many bytes were sent: those of the containers that ended, and less than one more
  record Sent (sent k : ℕ) : Type 0 where
    enough : k * s.size ≤ sent
    less : sent < suc k * s.size

  sent_is : (x : Sending) (row : List Adjustment) → Sent (length (under_way s box x ++ shares s box x row)) (ended s box x row)
  sent_is x row =
      let k = ended s box x row in
      let y = at_end s box x row in
      let e : length (under_way s box x ++ shares s box x row) ≡ k * s.size + length (under_way s box y) =
      ap length (shares_joined x row) ∙ length-append (joined box x.number k) (under_way s box y) ∙ ap (λ (n : ℕ). n + length (under_way s box y)) (joined_long x row)
      in
      let m : length (under_way s box y) ≤ held_count s y.state.offset = rw (length-take (held_count s y.state.offset) (box y.number)) (omega arith) in
      record { enough = omega arith; less = omega (arith, held_low s y.state.offset f, f.some, suc-mul k s.size) }

  -- The count is right: the last byte of a container was sent exactly if it is among those that were said to have ended.
  pub ended_right : (x : Sending) (row : List Adjustment) (i : ℕ)
      → (LastSent s (under_way s box x ++ shares s box x row) i → i < ended s box x row)
      × (i < ended s box x row → LastSent s (under_way s box x ++ shares s box x row) i)
  ended_right x row i = (there (ltb i k) refl, back)
    where
      k : ℕ
      k = ended s box x row

      n : ℕ
      n = length (under_way s box x ++ shares s box x row)

      there : (b : Bool) → ltb i k ≡ b → suc i * s.size ≤ n → i < k
      there true t h = ltb-true i k t
      there false t h = absurd (omega (arith, (sent_is x row).less, mul-le-mul_right s.size (more t)))
        where
          more : ltb i k ≡ false → suc k ≤ suc i
          more e = omega (arith, ltb-false i k e)

      back : i < k → suc i * s.size ≤ n
      back h = omega (arith, (sent_is x row).enough, mul-le-mul_right s.size (le h))
        where
          le : i < k → suc i ≤ k
          le e = omega arith
