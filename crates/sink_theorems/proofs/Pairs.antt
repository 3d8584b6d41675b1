-- That each of the three pairs of causes does stand, at a unit of an AU-4 that calls reach from the fresh state. Computed. Assumes nothing.
use mathlib.Core.Path.{◌≡◌, refl}
use mathlib.Core.Bool.{true, false}
use mathlib.Core.List.{List, [], ◌∷◌, ◌++◌}
use Prim.Native.Nat.{ℕ, zero, suc, ◌+◌, ◌%◌}
use lib.ListN.{get_or, replicate}
use Rattle.trace_message.specs.Message as of-check
use Rattle.shape.specs.Shape as of-shape
use Rattle.container.specs.Container as of-container
use Rattle.unit_end.specs.declared.Causes.{Causes}
use Rattle.sink_theorems.specs.Reach.{SinkCall, sink_called, reached}
use Rattle.sink_theorems.proofs.Opened.{opened}

-- the causes told of the last of a row of calls from the fresh state
pub causes : List SinkCall → SinkCall → Causes
unfolding opened
causes calls c = (sink_called of-shape.au4 (reached of-shape.au4 calls) c).received.causes

-- label 12 and a trace of fifteen zeros are expected, and everything is reported
pub feeding : List ℕ → SinkCall
feeding unit =
    record {
      settings = record { label = 0x12; trace = replicate 15 0x30; flags = record { monitored = true; rdi = true; ssf = true; ais = true } };
      unit = unit;
      held = replicate 2349 0;
      done = replicate 2349 0;
    }

-- all ones
pub ones : SinkCall
unfolding feeding
ones = feeding (replicate 2358 0xff)

pub alarm_and_ssf : causes (ones ∷ ones ∷ []) ones ≡ record { ais = true; lop = false; ssf = true; uneq = false; tim = false; rdi = false; plm = false }
unfolding causes ones
alarm_and_ssf = refl

pub lost_and_ssf : causes [] (feeding (replicate 2358 0)) ≡ record { ais = false; lop = true; ssf = true; uneq = false; tim = false; rdi = false; plm = false }
unfolding causes feeding
lost_and_ssf = refl

-- a source at offset 0 that sends label 13, remote defect, and the message of the trace expected; place k of the message stands in J1
pub unit_at : ℕ → SinkCall
unfolding feeding of-check.message of-check.start_byte of-check.check7 of-container.rows_of
unit_at k =
    feeding
    ((0x68 ∷ replicate 8 0)
    ++ of-container.container_of 261 (get_or (of-check.message (replicate 15 0x30)) (k % 16) 0 ∷ 0 ∷ 0x13 ∷ 0x08 ∷ replicate 5 0) (replicate 2340 0))

-- n units, from place k of the message on
pub units_from : ℕ → ℕ → List SinkCall
units_from zero k = []
units_from (suc n) k = unit_at k ∷ units_from n (k + 1)

-- two units until it locks; then three messages
pub remote_and_mismatch : causes (units_from 49 14) (unit_at 15) ≡ record { ais = false; lop = false; ssf = false; uneq = false; tim = false; rdi = true; plm = true }
unfolding causes unit_at units_from
remote_and_mismatch = refl
