-- A good signal to compute with: label 12, the trace `03E5`, no payload, a unit source at 782. What is asked of it and where the sink stands is left open.
use Rattle.std.specs.Prelude.{ℕ, ◌+◌, ◌%◌, false, true, List, [], ◌∷◌, replicate}
use Rattle.std.specs.Int.Bits.{bit_xor}
use Rattle.shape.specs.Shape.{au4}
use Rattle.shape.specs.declared.Adjustment.{Adjustment}
use Rattle.shape.specs.declared.Adjustment.TheVariants.{Decrement}
use Rattle.container_source.specs.Overhead.{j1_of}
use Rattle.container_source.specs.Source.{container_sent}
use Rattle.container_source.specs.declared.Given.{Given}
use Rattle.container_source_theorems.specs.Run as sending
use Rattle.settings.specs.declared.Settings.{Settings}
use Rattle.sink.specs.declared.State.{State}
use Rattle.settles.specs.Demand.{Run, Making, Asked}

-- `03E5` and eleven spaces
unfoldable pub trace : List ℕ
trace = 0x30 ∷ 0x33 ∷ 0x45 ∷ 0x35 ∷ replicate 11 0x20

abbrev pub settings : Settings
settings = record { label = 0x12; trace = trace; flags = record { monitored = true; rdi = true; ssf = true; ais = true } }

-- ---- the containers

-- one with the byte at this place of the message in J1, and an F2 that makes the parity of the whole 00
unfoldable pub given : ℕ → Given
given place = record { label = 0x12; unexamined = record { f2 = bit_xor (j1_of place trace) 0x12; h4 = 0; f3 = 0; k3 = 0; n1 = 0 }; violations = 0; remote = false }

abbrev pub container : ℕ → List ℕ
container place = container_sent au4 (record { place = place; parity = 0 }) (given place) trace (replicate 2340 0)

-- the calls that make them one after the other, the first of them at this place
unfoldable pub call : ℕ → sending.ContainerSourceCall
call place = record { given = given place; trace = trace; payload = replicate 2340 0; lent = replicate 2349 0 }

abbrev pub calls_from : ℕ → ℕ → sending.ContainerSourceCall
calls_from place k = call ((place + k) % 16)

abbrev pub making : ℕ → Making
making place = record { first = record { place = place; parity = 0 }; calls = calls_from place }

-- ---- the run

-- container 0 is at this place. The unit source has gone down from 0 to 782
abbrev pub asked : List Asked
asked = record { request = Decrement; current = replicate 2349 0; next = replicate 2349 0; unit = replicate 2358 0 } ∷ []

abbrev pub run : ℕ → (ℕ → Adjustment) → State → Run
run place ask state =
    record {
      box = λ k. container ((place + k) % 16);
      ask = ask;
      settings = settings;
      source = record { offset = 782; wait = 0 };
      state = state;
      unit = replicate 2358 0;
      held = replicate 2349 0;
      done = replicate 2349 0;
    }
