-- What the columns show of bits turned over on the way, for every container, every damage and every width. Assumes nothing.
use mathlib.Core.Path.{◌≡◌, refl, sym, ap, ap₂, subst, ◌∙◌}
use mathlib.Core.Bool.{Bool, true, false, cond, not}
use mathlib.Core.List.{List, [], ◌∷◌}
use Prim.Native.Nat.{ℕ, zero, suc, ◌*◌, ◌/◌, ◌%◌, ◌^◌, ◌<◌, ◌≤◌}
use native.Mathlib.Nat.{mod-lt, mul-one, zero-mul, zero-div}
use native.Mathlib.Omega.{arith}
use lib.Bits.{bit_xor, differ, xor_zero_l, xor_zero_r, xor_self, xor_shr}
use lib.ListN.{length, get_or, length-map, get_or-map}
use Rattle.laws.proofs.Bits.{xor_odd}
use Rattle.parity.specs.Parity.{parity_of}
use Rattle.parity.proofs.Laws.{xor_middle}
use Rattle.overhead.specs.Violations.{violated_of, kept_of}
use Rattle.monitor.specs.Seeing.{seen_in}
use Rattle.monitor.specs.Monitoring.{monitor_step, seen_of}
use Rattle.monitor.specs.declared.Overhead.{Overhead}
use Rattle.monitor.specs.declared.Monitor.{Monitor}
use Rattle.monitor.proofs.Places.{seen_at}
use Rattle.settings.specs.declared.Settings.{Settings}
use Rattle.sink_theorems.specs.Turned.{told_after, turned_over, on_line, odd, Stuck}

-- ---- what the monitor tells

-- of y after x it is `told_after`, whatever the monitor and the settings
pub monitor_tells : (columns : ℕ) (x y : List ℕ) (m : Monitor) (e e' : Settings)
    → (seen_of (monitor_step m (seen_in columns x) e) (seen_in columns y) e').violated ≡ told_after columns x y
unfolding seen_of monitor_step
monitor_tells columns x y m e e' = refl

by_bytes : (columns : ℕ) (x y : List ℕ) → 0 < columns → told_after columns x y ≡ bit_xor (get_or y columns 0) (parity_of x)
unfolding violated_of kept_of
by_bytes columns x y some = rw (seen_at columns x some, seen_at columns y some) refl

-- ---- bits turned over

turned_at : (bs ds : List ℕ) (i : ℕ) → i < length bs → get_or (turned_over bs ds) i 0 ≡ bit_xor (get_or bs i 0) (get_or ds i 0)
unfolding turned_over
turned_at [] ds i h = absurd (omega arith)
turned_at (b ∷ bs) [] i h = sym (xor_zero_r (get_or (b ∷ bs) i 0))
turned_at (b ∷ bs) (d ∷ ds) zero h = refl
turned_at (b ∷ bs) (d ∷ ds) (suc i) h = turned_at bs ds i (omega arith)

turned_parity : (bs ds : List ℕ) → length ds ≤ length bs → parity_of (turned_over bs ds) ≡ bit_xor (parity_of bs) (parity_of ds)
unfolding turned_over parity_of
turned_parity [] [] h = refl
turned_parity [] (d ∷ ds) h = absurd (omega arith)
turned_parity (b ∷ bs) [] h = sym (xor_zero_r (parity_of (b ∷ bs)))
turned_parity (b ∷ bs) (d ∷ ds) h = ap (bit_xor (bit_xor b d)) (turned_parity bs ds (omega arith)) ∙ xor_middle b d (parity_of bs) (parity_of ds)

-- x and then y were sent, B3 of y being the parity of x; in x the bits `d` were turned over on the way, in y the bits `e`. The columns told of y are the exclusive or of all that
-- was turned over in x, and of what was in B3 of y.
pub columns_show : (columns : ℕ) (x y d e : List ℕ) → 0 < columns → columns < length y → length d ≤ length x → (seen_in columns y).b3 ≡ parity_of x
    → told_after columns (turned_over x d) (turned_over y e) ≡ bit_xor (get_or e columns 0) (parity_of d)
columns_show columns x y d e some row short sent =
    let b3 : get_or y columns 0 ≡ parity_of x = sym (ap (λ (o : Overhead). o.b3) (seen_at columns y some)) ∙ sent in
    by_bytes columns (turned_over x d) (turned_over y e) some
    ∙ ap₂ bit_xor (turned_at y e columns row) (turned_parity x d short)
    ∙ ap (λ (b : ℕ). bit_xor (bit_xor b (get_or e columns 0)) (bit_xor (parity_of x) (parity_of d))) b3
    ∙ xor_middle (parity_of x) (get_or e columns 0) (parity_of x) (parity_of d)
    ∙ ap (λ (k : ℕ). bit_xor k (bit_xor (get_or e columns 0) (parity_of d))) (xor_self (parity_of x))
    ∙ xor_zero_l (bit_xor (get_or e columns 0) (parity_of d))

-- ---- one line

xor_line : (line : ℕ) (a b : Bool) → bit_xor (cond a line 0x00) (cond b line 0x00) ≡ cond (cond a (not b) b) line 0x00
xor_line line true true = xor_self line
xor_line line true false = xor_zero_r line
xor_line line false b = xor_zero_l (cond b line 0x00)

line_parity : (line : ℕ) (hits : List Bool) → parity_of (on_line line hits) ≡ cond (odd hits) line 0x00
unfolding parity_of odd
line_parity line [] = refl
line_parity line (hit ∷ hits) = ap (bit_xor (cond hit line 0x00)) (line_parity line hits) ∙ xor_line line hit (odd hits)

-- One line was hit, in some bytes of x and of y. It shows in its own column or not at all: it does where the bytes hit in x, and B3 of y if it was hit, are an odd number.
pub line_shows : (columns line : ℕ) (x y : List ℕ) (hits later : List Bool) → 0 < columns → columns < length y → length hits ≤ length x → (seen_in columns y).b3 ≡ parity_of x
    → told_after columns (turned_over x (on_line line hits)) (turned_over y (on_line line later)) ≡ cond (odd (get_or later columns false ∷ hits)) line 0x00
unfolding odd
line_shows columns line x y hits later some row short sent =
    let fits : length (on_line line hits) ≤ length x = rw (length-map hits (λ (hit : Bool). cond hit line 0x00)) short in
    columns_show columns x y (on_line line hits) (on_line line later) some row fits sent
    ∙ ap₂ bit_xor (get_or-map (λ (hit : Bool). cond hit line 0x00) later columns false) (line_parity line hits)
    ∙ xor_line line (get_or later columns false) (odd hits)

-- ---- a line stuck in every byte

-- one bit more of the same
differ_one : (m n : ℕ) → n % 2 ≡ m → differ 1 m ≡ suc n % 2
differ_one zero n e = omega arith
differ_one (suc zero) n e = omega arith
differ_one (suc (suc m)) n e = absurd (omega arith)

differ_more : (bit n : ℕ) → bit < 2 → differ bit (n * bit % 2) ≡ suc n * bit % 2
differ_more zero n h = omega arith
differ_more (suc zero) n h = rw (mul-one n, mul-one (suc n)) (differ_one (n % 2) n refl)
differ_more (suc (suc bit)) n h = absurd (omega arith)

differ_same : (bit : ℕ) → bit < 2 → differ bit bit ≡ 0
differ_same zero h = refl
differ_same (suc zero) h = refl
differ_same (suc (suc bit)) h = absurd (omega arith)

-- bit k of an exclusive or
bit_xor_lem : (k a b : ℕ) → bit_xor a b / 2 ^ k % 2 ≡ differ (a / 2 ^ k % 2) (b / 2 ^ k % 2)
bit_xor_lem k a b = ap (λ (n : ℕ). n % 2) (xor_shr a b k) ∙ xor_odd (a / 2 ^ k) (b / 2 ^ k)

stuck_parity : (k bit : ℕ) (bytes : List ℕ) → bit < 2 → Stuck k bit bytes → parity_of bytes / 2 ^ k % 2 ≡ length bytes * bit % 2
unfolding parity_of
stuck_parity k bit [] h stuck = rw (zero-div (2 ^ k), zero-mul bit) refl
stuck_parity k bit (b ∷ bs) h stuck =
    bit_xor_lem k b (parity_of bs)
    ∙ ap₂ differ (stuck 0 (omega arith)) (stuck_parity k bit bs h (λ i l. stuck (suc i) (omega arith)))
    ∙ differ_more bit (length bs) h

odd_times : (bit n : ℕ) → bit < 2 → n % 2 ≡ 1 → n * bit % 2 ≡ bit
odd_times zero n h e = omega arith
odd_times (suc zero) n h e = rw (mul-one n) e
odd_times (suc (suc bit)) n h e = absurd (omega arith)

-- Line k is stuck in every byte, B3 too, and a container has an odd number of bytes, as 2349 is: then its column is never violated. B3 does not show such a line.
pub stuck_unseen : (k bit columns : ℕ) (x y : List ℕ) → 0 < columns → columns < length y → length x % 2 ≡ 1 → Stuck k bit x → Stuck k bit y
    → told_after columns x y / 2 ^ k % 2 ≡ 0
stuck_unseen k bit columns x y some row o stuck still =
    let low : bit < 2 = subst (λ (b : ℕ). b < 2) (still columns row) (mod-lt (get_or y columns 0 / 2 ^ k) (omega arith)) in
    ap (λ (n : ℕ). n / 2 ^ k % 2) (by_bytes columns x y some)
    ∙ bit_xor_lem k (get_or y columns 0) (parity_of x)
    ∙ ap₂ differ (still columns row) (stuck_parity k bit x low stuck ∙ odd_times bit (length x) low o)
    ∙ differ_same bit low
