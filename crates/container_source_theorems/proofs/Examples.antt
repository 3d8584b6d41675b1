-- Worked examples of what is sent and of what is refused, computed by the check from the definitions. Assumes nothing.
use mathlib.Core.Path.{◌≡◌, refl}
use mathlib.Core.Bool.{true}
use mathlib.Core.List.{List, [], ◌∷◌, ◌++◌, map}
use Prim.Native.Nat.{ℕ}
use lib.ListN.{replicate}
use Rattle.refusals.specs.Refusals.{answer_number, answer_says, answer_of}
use Rattle.std.specs.Prelude.{Ok}
use Rattle.shape.specs.Shape.{au4}
use Rattle.container.specs.Container.{rows_of, container_of, overhead_in}
use Rattle.container.specs.Payload.{payload_faults}
use Rattle.container_source.specs.Source.{fresh_container_source, send_faults, container_source}
use Rattle.container_source.specs.declared.Given.{Given}
use Rattle.container_source.proofs.Opened as source

-- ---- layout

-- three columns: an overhead byte and two of payload in each row
pub small : container_of 3 (1 ∷ 2 ∷ 3 ∷ 4 ∷ 5 ∷ 6 ∷ 7 ∷ 8 ∷ 9 ∷ [])
    (11 ∷ 12 ∷ 21 ∷ 22 ∷ 31 ∷ 32 ∷ 41 ∷ 42 ∷ 51 ∷ 52 ∷ 61 ∷ 62 ∷ 71 ∷ 72 ∷ 81 ∷ 82 ∷ 91 ∷ 92 ∷ [])
    ≡ 1 ∷ 11 ∷ 12
    ∷ 2 ∷ 21 ∷ 22
    ∷ 3 ∷ 31 ∷ 32
    ∷ 4 ∷ 41 ∷ 42
    ∷ 5 ∷ 51 ∷ 52
    ∷ 6 ∷ 61 ∷ 62
    ∷ 7 ∷ 71 ∷ 72
    ∷ 8 ∷ 81 ∷ 82
    ∷ 9 ∷ 91 ∷ 92
    ∷ []
unfolding rows_of
small = refl

-- ---- a fresh source's first VC-4

-- `03E5` and eleven spaces
pub trace : List ℕ
trace = 0x30 ∷ 0x33 ∷ 0x45 ∷ 0x35 ∷ replicate 11 0x20

-- label 12, three violations and remote defect returned
pub given : Given
given = record { label = 0x12; unexamined = record { f2 = 1; h4 = 2; f3 = 3; k3 = 4; n1 = 5 }; violations = 3; remote = true }

pub payload : List ℕ
payload = 0x01 ∷ replicate 2339 0x5a

pub first_overhead : overhead_in 261 (container_source au4 fresh_container_source given trace payload (replicate 2349 0)).container ≡ 0x8b ∷ 0x00 ∷ 0x12 ∷ 0x38 ∷ 1 ∷ 2 ∷ 3 ∷ 4 ∷ 5 ∷ []
unfolding source.opened given trace payload
first_overhead = refl

pub first_sent : (container_source au4 fresh_container_source given trace payload (replicate 2349 0)).sent ≡ record { answer = Ok tt; state = record { place = 1; parity = 0xfb } }
unfolding source.opened given trace payload
first_sent = refl

-- ---- the order of refusals

-- "Container source: 8, 4, 5, 2, 3, 6", with 20 and 21 "in the place of 5": each row has its own fault and all those after it in that order, the last none
pub record Row : Type 0 where
  pub place : ℕ
  pub label : ℕ
  pub trace : List ℕ
  pub payload : ℕ
  pub container : ℕ
  pub violations : ℕ

pub row : ℕ → ℕ → List ℕ → ℕ → ℕ → ℕ → Row
row p l t n m v = record { place = p; label = l; trace = t; payload = n; container = m; violations = v }

pub rows : List Row
rows =
    row 16 0x00 (replicate 15 0x1f) 2339 2348 9
    ∷ row 15 0x00 (replicate 15 0x1f) 2339 2348 9
    ∷ row 15 0xff (replicate 15 0x1f) 2339 2348 9
    ∷ row 15 0x01 (replicate 15 0x1f) 2339 2348 9
    ∷ row 15 0x01 (replicate 15 0x7f) 2339 2348 9
    ∷ row 15 0x01 (replicate 15 0x20) 2339 2348 9
    ∷ row 15 0x01 (replicate 14 0x20 ++ (0x21 ∷ [])) 2339 2348 9
    ∷ row 15 0x01 (replicate 15 0x7e) 2340 2348 9
    ∷ row 15 0x01 (replicate 15 0x7e) 2340 2349 9
    ∷ row 15 0x01 (replicate 15 0x7e) 2340 2349 8
    ∷ []

pub answered : Row → List ℕ
answered r = answer_says (answer_of (send_faults au4 r.place r.label r.trace r.payload r.container r.violations))

pub source_order : map answered rows ≡
    (8 ∷ []) ∷ (4 ∷ []) ∷ (4 ∷ []) ∷ (5 ∷ 1 ∷ []) ∷ (20 ∷ 1 ∷ []) ∷ (21 ∷ []) ∷ (2 ∷ []) ∷ (3 ∷ []) ∷ (6 ∷ []) ∷ (0 ∷ []) ∷ []
unfolding answer_says source.refusals row rows answered
source_order = refl

-- "Payload call: 3, 2"
pub payload_order : map (λ (n : ℕ). answer_number (answer_of (payload_faults au4 n 2339))) (2348 ∷ 2349 ∷ 2350 ∷ []) ≡ 3 ∷ 2 ∷ 3 ∷ []
unfolding source.refusals payload_faults
payload_order = refl
