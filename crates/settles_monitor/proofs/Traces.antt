-- 63 bytes of one message sent over and over: up to 15 strays, and then three whole messages. The trace is accepted, and dTIM does not stand. Assumes nothing.
use mathlib.Core.Path.{◌≡◌, refl}
use mathlib.Core.Bool.{Bool, true, false}
use mathlib.Core.List.{List}
use Prim.Native.Nat.{ℕ, zero, suc, ◌+◌, ◌*◌, ◌%◌, ◌<◌, ◌≤◌, min}
use native.Mathlib.Omega.{arith}
use lib.Dec.{ltb, leb}
use lib.ListN.{length, get_or}
use borrow.Author.Tests.{lt-leb, leb-false, ltb-true, ltb-false}
use Rattle.laws.proofs.Tests.{by_test}
use Rattle.counts.specs.Counts.{more, run_on}
use Rattle.trace_message.specs.Message.{start_byte, message, top_bits_clear, alike}
use Rattle.trace_message.proofs.Alike.{same_alike}
use Rattle.trace_monitor.specs.declared.Gathered.{Gathered}
use Rattle.trace_monitor.specs.declared.Trace.{Trace}
use Rattle.trace_monitor.specs.Trace.{gathered_of, ends_good, spoils, with_good, without_good, trace_of}
use Rattle.settles_monitor.specs.Near.{enough}
use Rattle.settles_monitor.proofs.Runs.{run_up}
use Rattle.settles_monitor.proofs.Gathers.{gathered_whole, Along, start_along, start_ends, start_spoils, char_along, char_ends, char_spoils, last_gathered, last_ends}

-- ---- what was heard

-- n whole messages s in turn, and i bytes of the next
pub record Heard (s : List ℕ) (n i : ℕ) (t : Trace) : Type 0 where
  pub runs : min n 3 ≤ t.run
  pub last : 0 < n → t.last ≡ s
  pub count : 0 < n → t.without ≤ i
  pub known : 3 ≤ n → t.known ≡ true
  pub accepted : 3 ≤ n → t.accepted ≡ s
  pub tim : 3 ≤ n → t.tim ≡ false

-- nothing, in any state
nothing : (s : List ℕ) (i : ℕ) (t : Trace) → Heard s 0 i t
nothing s i t =
    record {
      runs = omega arith;
      last = λ h. absurd (omega arith);
      count = λ h. absurd (omega arith);
      known = λ h. absurd (omega arith);
      accepted = λ h. absurd (omega arith);
      tim = λ h. absurd (omega arith);
    }

-- a byte of the next message that does not end it: the count does not come to 48
passed : (s : List ℕ) (n i : ℕ) (t : Trace) (g : Gathered) (spoilt : Bool) → i < 15 → (0 < n → spoilt ≡ false) → Heard s n i t → Heard s n (suc i) (without_good t g spoilt)
unfolding without_good
passed s zero i t g spoilt l c h = nothing s (suc i) (without_good t g spoilt)
passed s (suc n) i t g spoilt l c h =
    let o : more t.without 48 ≤ suc i = omega (arith, h.count (omega arith)) in
    rw (lt-leb 48 (more t.without 48) (omega arith), c (omega arith))
    (record { runs = h.runs; last = h.last; count = λ _. o; known = h.known; accepted = h.accepted; tim = h.tim })

-- the byte that ends it
ended : (s : List ℕ) (n : ℕ) (t : Trace) (g : Gathered) → g.chars ≡ s → Heard s n 15 t → Heard s (suc n) 0 (with_good t g s)
unfolding with_good
ended s n t g e h =
    let run = run_on (alike s t.last) t.run 3 in
    let r : min (n + 1) 3 ≤ run = run_up n t.run 3 (alike s t.last) (omega arith) (λ p. rw (h.last p) (same_alike s s refl)) h.runs in
    rw e
    (by_test (Heard s (suc n) 0) (leb 3 run)
    (λ _. record { runs = omega arith; last = λ _. refl; count = λ _. omega arith; known = λ _. refl; accepted = λ _. refl; tim = λ _. rw (same_alike s s refl) })
    (λ b.
    let q : run < 3 = leb-false 3 run b in
    record {
      runs = omega arith;
      last = λ _. refl;
      count = λ _. omega arith;
      known = λ k. absurd (omega arith);
      accepted = λ k. absurd (omega arith);
      tim = λ k. absurd (omega arith);
    }))

-- ---- what is gathered is what the byte makes of it, whether it ends a message or not

pub without_gathered : (t : Trace) (g : Gathered) (spoilt : Bool) → (without_good t g spoilt).gathered ≡ g
unfolding without_good
without_gathered t g spoilt = by_test (λ (r : Trace). r.gathered ≡ g) (leb 48 (more t.without 48)) (λ _. refl) (λ _. refl)

pub with_gathered : (t : Trace) (g : Gathered) (s : List ℕ) → (with_good t g s).gathered ≡ g
unfolding with_good
with_gathered t g s = by_test (λ (r : Trace). r.gathered ≡ g) (leb 3 (run_on (alike g.chars t.last) t.run 3)) (λ _. refl) (λ _. refl)

trace_gathered : (t : Trace) (b : ℕ) (s : List ℕ) → (trace_of t b s).gathered ≡ gathered_of t.gathered b
unfolding trace_of
trace_gathered t b s =
    let g = gathered_of t.gathered b in
    by_test (λ (r : Trace). r.gathered ≡ g) (ends_good t.gathered.place b g) (λ _. with_gathered t g s) (λ _. without_gathered t g (spoils t.gathered.place b))

-- any byte leaves 15 places
pub trace_whole : (t : Trace) (b : ℕ) (s : List ℕ) → length t.gathered.chars ≡ 15 → length (trace_of t b s).gathered.chars ≡ 15
trace_whole t b s h = rw (trace_gathered t b s) (gathered_whole t.gathered b h)

-- ---- how near the trace is

-- After k bytes of the message s sent over and over, the next one at place i.
-- Strays: those before the first start byte. Between: n whole messages have come. Inside: and i bytes of the next.
pub data Near (s : List ℕ) (i k : ℕ) (t : Trace) : Type 0 where
  strays : k < i → length t.gathered.chars ≡ 15 → Near s i k t
  between : (n : ℕ) → i ≡ 0 → k ≤ 15 + 16 * n → length t.gathered.chars ≡ 15 → (0 < n → t.gathered.place ≡ 0) → Heard s n 0 t → Near s i k t
  inside : (n : ℕ) → 0 < i → k ≤ 15 + 16 * n + i → Along s i t.gathered → Heard s n i t → Near s i k t

-- any state, before the first byte
pub near_none : (s : List ℕ) (i : ℕ) (t : Trace) → length t.gathered.chars ≡ 15 → Near s i 0 t
near_none s zero t h = between 0 refl (omega arith) h (λ p. absurd (omega arith)) (nothing s 0 t)
near_none s (suc i) t h = strays (omega arith) h

-- the place after place i: the next, or after the last that of the start byte
pub by_next : (P : ℕ → Type 0) (i : ℕ) → i < 16 → (i < 15 → P (suc i)) → (i ≡ 15 → P 0) → P ((i + 1) % 16)
by_next P i w h k = go (ltb i 15) refl
  where
    go : (q : Bool) → ltb i 15 ≡ q → P ((i + 1) % 16)
    go true q =
        let l : i < 15 = ltb-true i 15 q in
        let e : (i + 1) % 16 ≡ suc i = omega arith in
        rw e (h l)
    go false q =
        let l : i ≡ 15 = omega (arith, ltb-false i 15 q) in
        let e : (i + 1) % 16 ≡ 0 = omega arith in
        rw e (k l)

module _ (s : List ℕ) (size : length s ≡ 15) (low : top_bits_clear s ≡ true) (k : ℕ) (t : Trace) where
  -- the start byte
  near_start : Near s 0 k t → Near s 1 (k + 1) (trace_of t (start_byte s) s)
  unfolding trace_of
  near_start (strays l h) = absurd (omega arith)
  near_start (inside n p l a d) = absurd (omega arith)
  near_start (between n e l h p d) =
      let g = gathered_of t.gathered (start_byte s) in
      let spoilt = spoils t.gathered.place (start_byte s) in
      rw (start_ends s size low t.gathered.place g)
      (inside n (omega arith) (omega arith)
      (rw (without_gathered t g spoilt) (start_along s size low t.gathered h))
      (passed s n 0 t g spoilt (omega arith) (λ q. rw (p q) (start_spoils s size low)) d))

  -- character j, and not the last
  near_char : (j : ℕ) → j < 14 → Near s (suc j) k t → Near s (suc (suc j)) (k + 1) (trace_of t (get_or s j 0) s)
  unfolding trace_of
  near_char j w (strays l h) = strays (omega arith) (trace_whole t (get_or s j 0) s h)
  near_char j w (between n e l h p d) = absurd (omega arith)
  near_char j w (inside n p l a d) =
      let g = gathered_of t.gathered (get_or s j 0) in
      let spoilt = spoils t.gathered.place (get_or s j 0) in
      rw (char_ends s size low j w t.gathered.place g a.place)
      (inside n (omega arith) (omega arith)
      (rw (without_gathered t g spoilt) (char_along s size low j w t.gathered a))
      (passed s n (suc j) t g spoilt (omega arith) (λ _. char_spoils s size low j w t.gathered.place a.place) d))

  -- the last character
  near_last : Near s 15 k t → Near s 0 (k + 1) (trace_of t (get_or s 14 0) s)
  unfolding trace_of
  near_last (strays l h) =
      between 0 refl (omega arith) (trace_whole t (get_or s 14 0) s h) (λ p. absurd (omega arith)) (nothing s 0 (trace_of t (get_or s 14 0) s))
  near_last (between n e l h p d) = absurd (omega arith)
  near_last (inside n p l a d) =
      let m : Gathered = record { place = 0; start = start_byte s; chars = s } in
      rw (last_gathered s size low t.gathered a, last_ends s size low t.gathered.place a.place)
      (between (suc n) refl (omega arith)
      (rw (with_gathered t m s) size)
      (λ _. rw (with_gathered t m s))
      (ended s n t m refl d))

  -- each byte in its turn
  pub near_step : (i : ℕ) → i < 16 → Near s i k t → Near s ((i + 1) % 16) (k + 1) (trace_of t (get_or (message s) i 0) s)
  unfolding message
  near_step zero w n = near_start n
  near_step (suc j) w n =
      by_next (λ (r : ℕ). Near s r (k + 1) (trace_of t (get_or s j 0) s)) (suc j) w
      (λ l. near_char j (omega arith) n)
      (λ l.
      let e : j ≡ 14 = omega arith in
      rw e (near_last (rw e at n)))

-- ---- 63 bytes

-- the message s is accepted, and it is the one expected
pub record Accepted (s : List ℕ) (t : Trace) : Type 0 where
  pub known : t.known ≡ true
  pub accepted : t.accepted ≡ s
  pub tim : t.tim ≡ false

pub near_accepted : (s : List ℕ) (i k : ℕ) (t : Trace) → i < 16 → enough ≤ k → Near s i k t → Accepted s t
near_accepted s i k t w l (strays m h) = absurd (omega arith)
near_accepted s i k t w l (between n e m h p d) =
    record { known = d.known (omega arith); accepted = d.accepted (omega arith); tim = d.tim (omega arith) }
near_accepted s i k t w l (inside n p m a d) =
    record { known = d.known (omega arith); accepted = d.accepted (omega arith); tim = d.tim (omega arith) }
