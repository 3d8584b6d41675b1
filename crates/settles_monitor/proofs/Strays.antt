-- One byte of J1, whatever it is, after the trace has settled, and then the message as before: accepted trace and dTIM stay. Assumes nothing.
use mathlib.Core.Path.{◌≡◌, refl, ◌∙◌}
use mathlib.Core.Bool.{Bool, true, false, false≢true}
use mathlib.Core.List.{List}
use mathlib.Core.Logic.{◌⊎◌, inl, inr}
use Prim.Native.Nat.{ℕ, zero, suc, ◌+◌, ◌%◌, ◌<◌, ◌≤◌}
use native.Mathlib.Omega.{arith}
use lib.Dec.{eqb, ltb, leb}
use lib.ListN.{length, get_or}
use borrow.Author.Tests.{lt-leb, eqb-true}
use Rattle.laws.proofs.Tests.{by_test}
use Rattle.counts.specs.Counts.{more, run_on}
use Rattle.trace_message.specs.Message.{start_byte, message, top_bits_clear, alike}
use Rattle.trace_message.proofs.Alike.{alike_same, same_alike}
use Rattle.trace_message.proofs.Message.{clear_at}
use Rattle.trace_monitor.specs.declared.Gathered.{Gathered}
use Rattle.trace_monitor.specs.declared.Trace.{Trace}
use Rattle.trace_monitor.specs.Trace.{gathered_of, ends_good, spoils, with_good, without_good, trace_of}
use Rattle.settles_monitor.specs.Near.{enough}
use Rattle.settles_monitor.proofs.Gathers.{gathered_whole, Along, start_along, start_ends, char_along, char_ends, last_gathered, last_ends}
use Rattle.settles_monitor.proofs.Traces.{Near, strays, between, inside, by_next, Accepted, near_accepted, without_gathered, with_gathered}

-- ---- what stays

-- accepted, with a count of b at the most
pub record Kept (s : List ℕ) (b : ℕ) (t : Trace) : Type 0 where
  pub accepted : Accepted s t
  pub count : t.without ≤ b

kept_more : (s : List ℕ) (b c : ℕ) (t : Trace) → b ≤ c → Kept s b t → Kept s c t
kept_more s b c t l k = record { accepted = k.accepted; count = omega (arith, k.count) }

-- a byte that ends no good message
without_kept : (s : List ℕ) (b : ℕ) (t : Trace) (g : Gathered) (spoilt : Bool) → b < 47 → Kept s b t → Kept s (suc b) (without_good t g spoilt)
unfolding without_good
without_kept s b t g spoilt l k =
    let o : more t.without 48 ≤ suc b = omega (arith, k.count) in
    rw (lt-leb 48 (more t.without 48) (omega arith))
    (record { accepted = record { known = k.accepted.known; accepted = k.accepted.accepted; tim = k.accepted.tim }; count = o })

without_last : (t : Trace) (g : Gathered) (spoilt : Bool) → (without_good t g spoilt).last ≡ t.last
unfolding without_good
without_last t g spoilt = by_test (λ (r : Trace). r.last ≡ t.last) (leb 48 (more t.without 48)) (λ _. refl) (λ _. refl)

-- one that ends the message s
with_kept : (s : List ℕ) (b : ℕ) (t : Trace) (g : Gathered) → g.chars ≡ s → Accepted s t → Kept s b (with_good t g s)
unfolding with_good
with_kept s b t g e a =
    by_test (Kept s b) (leb 3 (run_on (alike g.chars t.last) t.run 3))
    (λ _. record { accepted = record { known = refl; accepted = e; tim = rw (e, same_alike s s refl) }; count = omega arith })
    (λ _. record { accepted = record { known = a.known; accepted = a.accepted; tim = a.tim }; count = omega arith })

with_last : (t : Trace) (g : Gathered) (s : List ℕ) → (with_good t g s).last ≡ g.chars
unfolding with_good
with_last t g s =
    by_test (λ (r : Trace). r.last ≡ g.chars) (leb 3 (run_on (alike g.chars t.last) t.run 3)) (λ _. refl) (λ _. refl)

-- and one that ends another: its run is 1
other_kept : (s : List ℕ) (b : ℕ) (t : Trace) (g : Gathered) → alike g.chars s ≡ false → t.last ≡ s → Accepted s t → Kept s b (with_good t g s)
unfolding with_good run_on
other_kept s b t g d e a =
    by_test (Kept s b) (leb 3 (run_on (alike g.chars t.last) t.run 3))
    (λ h. absurd (false≢true (rw (e, d) at h)))
    (λ _. record { accepted = record { known = a.known; accepted = a.accepted; tim = a.tim }; count = omega arith })

-- a byte that ends a message leaves place 0
ends_place : (g n : Gathered) (b : ℕ) → ends_good g.place b n ≡ true → (gathered_of g b).place ≡ 0
unfolding ends_good gathered_of
ends_place g n b h =
    by_test (λ (r : Gathered). r.place ≡ 0) (leb 0x80 b) (λ e. absurd (false≢true (rw e at h)))
    (λ e. by_test (λ (r : Gathered). r.place ≡ 0) (eqb g.place 0) (λ z. eqb-true g.place 0 z)
    (λ _. by_test (λ (r : Gathered). r.place ≡ 0) (ltb g.place 15) (λ w. absurd (false≢true (rw (e, w) at h))) (λ _. refl)))

-- ---- after the damage

-- The next byte at place i: up to the next start byte, at it, and along a message again.
pub data Loose (s : List ℕ) (i : ℕ) (t : Trace) : Type 0 where
  astray : 0 < i → length t.gathered.chars ≡ 15 → (t.last ≡ s) ⊎ (t.gathered.place ≡ 0) → Kept s i t → Loose s i t
  anew : i ≡ 0 → length t.gathered.chars ≡ 15 → Kept s 16 t → Loose s i t
  again : 0 < i → Along s i t.gathered → Kept s (16 + i) t → Loose s i t

-- it is accepted all the while
pub loose_accepted : (s : List ℕ) (i : ℕ) (t : Trace) → Loose s i t → Accepted s t
loose_accepted s i t (astray p h o k) = k.accepted
loose_accepted s i t (anew e h k) = k.accepted
loose_accepted s i t (again p a k) = k.accepted

-- where the byte after place i finds the trace
land : (s : List ℕ) (i : ℕ) (t : Trace) → i < 16 → length t.gathered.chars ≡ 15 → (t.last ≡ s) ⊎ (t.gathered.place ≡ 0) → Kept s (suc i) t → Loose s ((i + 1) % 16) t
land s i t w h o k =
    by_next (λ (r : ℕ). Loose s r t) i w
    (λ _. astray (omega arith) h o k)
    (λ _. anew refl h (kept_more s (suc i) 16 t (omega arith) k))

-- any byte whatever, at a place where s was the last message
any_byte : (s : List ℕ) (i : ℕ) (t : Trace) (b : ℕ) → i < 16 → length t.gathered.chars ≡ 15 → t.last ≡ s → Kept s i t → Loose s ((i + 1) % 16) (trace_of t b s)
unfolding trace_of
any_byte s i t b w h e k =
    by_test (λ (r : Trace). Loose s ((i + 1) % 16) r) (ends_good t.gathered.place b g) (λ d. well d (alike g.chars s) refl)
    (λ _. land s i (without_good t g spoilt) w (rw (without_gathered t g spoilt) size) (inl (without_last t g spoilt ∙ e)) (without_kept s i t g spoilt (omega arith) k))
  where
    g : Gathered
    g = gathered_of t.gathered b

    spoilt : Bool
    spoilt = spoils t.gathered.place b

    size : length g.chars ≡ 15
    size = gathered_whole t.gathered b h

    well : ends_good t.gathered.place b g ≡ true → (q : Bool) → alike g.chars s ≡ q → Loose s ((i + 1) % 16) (with_good t g s)
    well d true q =
        let c : g.chars ≡ s = alike_same g.chars s q in
        land s i (with_good t g s) w (rw (with_gathered t g s) size) (inl (with_last t g s ∙ c)) (with_kept s (suc i) t g c k.accepted)
    well d false q =
        land s i (with_good t g s) w (rw (with_gathered t g s) size) (inr (rw (with_gathered t g s) (ends_place t.gathered g b d)))
        (other_kept s (suc i) t g q e k.accepted)

-- a byte with top bit 0 outside any message
outside_ends : (place b : ℕ) (n : Gathered) → leb 0x80 b ≡ false → place ≡ 0 → ends_good place b n ≡ false
unfolding ends_good
outside_ends place b n h p = rw (h, p)

outside_place : (g : Gathered) (b : ℕ) → leb 0x80 b ≡ false → g.place ≡ 0 → (gathered_of g b).place ≡ 0
unfolding gathered_of
outside_place g b h p = rw (h, p)

module _ (s : List ℕ) (size : length s ≡ 15) (low : top_bits_clear s ≡ true) (t : Trace) where
  -- a character outside any message
  outside : (j : ℕ) → j < 15 → length t.gathered.chars ≡ 15 → t.gathered.place ≡ 0 → Kept s (suc j) t → Loose s ((suc j + 1) % 16) (trace_of t (get_or s j 0) s)
  unfolding trace_of
  outside j w h p k =
      let g = gathered_of t.gathered (get_or s j 0) in
      let spoilt = spoils t.gathered.place (get_or s j 0) in
      rw (quiet g)
      (land s (suc j) (without_good t g spoilt) (omega arith) (rw (without_gathered t g spoilt) (gathered_whole t.gathered (get_or s j 0) h))
      (inr (rw (without_gathered t g spoilt) stays)) (without_kept s (suc j) t g spoilt (omega arith) k))
    where
      high : leb 0x80 (get_or s j 0) ≡ false
      high = lt-leb 0x80 (get_or s j 0) (clear_at s j low (omega arith))

      quiet : (n : Gathered) → ends_good t.gathered.place (get_or s j 0) n ≡ false
      quiet n = outside_ends t.gathered.place (get_or s j 0) n high p

      stays : (gathered_of t.gathered (get_or s j 0)).place ≡ 0
      stays = outside_place t.gathered (get_or s j 0) high p

  -- the start byte
  loose_start : Loose s 0 t → Loose s 1 (trace_of t (start_byte s) s)
  unfolding trace_of
  loose_start (astray p h o k) = absurd (omega arith)
  loose_start (again p a k) = absurd (omega arith)
  loose_start (anew e h k) =
      let g = gathered_of t.gathered (start_byte s) in
      let spoilt = spoils t.gathered.place (start_byte s) in
      rw (start_ends s size low t.gathered.place g)
      (again (omega arith) (rw (without_gathered t g spoilt) (start_along s size low t.gathered h)) (without_kept s 16 t g spoilt (omega arith) k))

  -- character j
  loose_char : (j : ℕ) → j < 15 → Loose s (suc j) t → Loose s ((suc j + 1) % 16) (trace_of t (get_or s j 0) s)
  unfolding trace_of
  loose_char j w (astray p h (inl e) k) = any_byte s (suc j) t (get_or s j 0) (omega arith) h e k
  loose_char j w (astray p h (inr z) k) = outside j w h z k
  loose_char j w (anew e h k) = absurd (omega arith)
  loose_char j w (again p a k) =
      by_next (λ (r : ℕ). Loose s r (trace_of t (get_or s j 0) s)) (suc j) (omega arith)
      (λ l. next (omega arith))
      (λ l.
      let e : j ≡ 14 = omega arith in
      rw e (last (rw e at a)))
    where
      next : j < 14 → Loose s (suc (suc j)) (trace_of t (get_or s j 0) s)
      next v =
          let g = gathered_of t.gathered (get_or s j 0) in
          let spoilt = spoils t.gathered.place (get_or s j 0) in
          rw (char_ends s size low j v t.gathered.place g a.place)
          (again (omega arith) (rw (without_gathered t g spoilt) (char_along s size low j v t.gathered a))
          (kept_more s (suc (16 + suc j)) (16 + suc (suc j)) (without_good t g spoilt) (omega arith) (without_kept s (16 + suc j) t g spoilt (omega arith) k)))

      last : Along s 15 t.gathered → Loose s 0 (trace_of t (get_or s 14 0) s)
      last a =
          let m : Gathered = record { place = 0; start = start_byte s; chars = s } in
          rw (last_gathered s size low t.gathered a, last_ends s size low t.gathered.place a.place)
          (anew refl (rw (with_gathered t m s) size) (with_kept s 16 t m refl k.accepted))

  -- each byte in its turn
  pub loose_step : (i : ℕ) → i < 16 → Loose s i t → Loose s ((i + 1) % 16) (trace_of t (get_or (message s) i 0) s)
  unfolding message
  loose_step zero w l = loose_start l
  loose_step (suc j) w l = loose_char j (omega arith) l

-- the damaged byte, after 63 that were not
pub trace_hit : (s : List ℕ) (i k : ℕ) (t : Trace) (b : ℕ) → i < 16 → enough ≤ k → Near s i k t → Loose s ((i + 1) % 16) (trace_of t b s)
trace_hit s i k t b w l n = go n
  where
    go : Near s i k t → Loose s ((i + 1) % 16) (trace_of t b s)
    go (strays m h) = absurd (omega arith)
    go (between j e m h p d) =
        any_byte s i t b w h (d.last (omega arith)) (record { accepted = near_accepted s i k t w l n; count = omega (arith, d.count (omega arith)) })
    go (inside j p m a d) =
        any_byte s i t b w a.size (d.last (omega arith)) (record { accepted = near_accepted s i k t w l n; count = d.count (omega arith) })
