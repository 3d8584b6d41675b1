-- Runs of J1 worked out, computed by the check from the definitions. The expected trace is 03E5 with eleven spaces. Assumes nothing.
use mathlib.Core.Path.{◌≡◌, refl}
use mathlib.Core.Bool.{Bool, true, false}
use mathlib.Core.List.{List, [], ◌∷◌, ◌++◌, map}
use Prim.Native.Nat.{ℕ}
use lib.ListN.{take, replicate}
use Rattle.counts.specs.Counts.{run_on}
use Rattle.trace_message.specs.Message.{coefficients, polynomial, minus, remainder, number, check7, start_byte, message, top_bits_clear, good_message, alike}
use Rattle.trace_monitor.specs.declared.Trace.{Trace}
use Rattle.trace_monitor.specs.Trace.{gathered_of, ends_good, spoils, with_good, without_good, trace_of, blank_trace}

pub expected : List ℕ
expected = 0x30 ∷ 0x33 ∷ 0x45 ∷ 0x35 ∷ replicate 11 0x20

-- a trace after these bytes
unfoldable pub after : Trace → List ℕ → Trace
after t [] = t
after t (j1 ∷ bytes) = after (trace_of t j1 expected) bytes

-- what is shown of it
pub record Shown : Type 0 where
  pub run : ℕ
  pub known : Bool
  pub without : ℕ
  pub tim : Bool

-- from this count, after these bytes
unfoldable pub shown : ℕ → List ℕ → Shown
shown count bytes =
    let t = after (blank_trace count) bytes in
    record { run = t.run; known = t.known; without = t.without; tim = t.tim }

-- ---- what J1 carries

-- the expected message, three of it, and another
pub one : List ℕ
one = message expected

pub three : List ℕ
three = one ++ (one ++ one)

pub other : List ℕ
other = message (replicate 15 0x41)

-- ---- messages

-- Two are not yet accepted, three are: no start byte of theirs cuts anything. Three others are accepted too, and dTIM stands.
-- One more renews it; a good but different one begins a run.
pub accepts :
    map (shown 0) ((one ++ one) ∷ three ∷ (other ++ (other ++ other)) ∷ (three ++ one) ∷ (three ++ other) ∷ [])
    ≡ record { run = 2; known = false; without = 0; tim = false }
    ∷ record { run = 3; known = true; without = 0; tim = false }
    ∷ record { run = 3; known = true; without = 0; tim = true }
    ∷ record { run = 3; known = true; without = 0; tim = false }
    ∷ record { run = 1; known = true; without = 0; tim = false }
    ∷ []
unfolding coefficients polynomial minus remainder number check7 start_byte message top_bits_clear good_message alike run_on gathered_of ends_good spoils with_good without_good trace_of blank_trace after shown expected one three other
accepts = refl

-- The run is 3 inside the fourth message. A start byte there cuts it, a byte outside any and a wrong check do as much; what was cut by a start byte goes on from it.
pub spoilt :
    map (shown 0) ((three ++ take 7 one) ∷ (three ++ (take 7 one ++ take 1 one)) ∷ (three ++ (0x20 ∷ [])) ∷ (three ++ (0x80 ∷ expected)) ∷ (take 7 one ++ one) ∷ [])
    ≡ record { run = 3; known = true; without = 7; tim = false }
    ∷ record { run = 0; known = true; without = 8; tim = false }
    ∷ record { run = 0; known = true; without = 1; tim = false }
    ∷ record { run = 0; known = true; without = 16; tim = false }
    ∷ record { run = 1; known = false; without = 0; tim = false }
    ∷ []
unfolding coefficients polynomial minus remainder number check7 start_byte message top_bits_clear good_message alike run_on gathered_of ends_good spoils with_good without_good trace_of blank_trace after shown expected one three other
spoilt = refl

-- ---- containers without

-- 47 do nothing, the 48th sets dTIM. After a clearing the first does; a good message puts the count to 0, and two more are accepted.
pub counted :
    (map (shown 0) (replicate 47 0x20 ∷ replicate 48 0x20 ∷ [])
    ≡ record { run = 0; known = false; without = 47; tim = false }
    ∷ record { run = 0; known = false; without = 48; tim = true }
    ∷ [])
    × (map (shown 48) ([] ∷ (0x20 ∷ []) ∷ one ∷ three ∷ [])
    ≡ record { run = 0; known = false; without = 48; tim = false }
    ∷ record { run = 0; known = false; without = 48; tim = true }
    ∷ record { run = 1; known = false; without = 0; tim = true }
    ∷ record { run = 3; known = true; without = 0; tim = false }
    ∷ [])
unfolding coefficients polynomial minus remainder number check7 start_byte message top_bits_clear good_message alike run_on gathered_of ends_good spoils with_good without_good trace_of blank_trace after shown expected one three other
counted = (refl, refl)
