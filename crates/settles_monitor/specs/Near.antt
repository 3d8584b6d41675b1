-- What the theorem about the monitor speaks of: settings that no number refuses, containers of one source that carry them, and how many settle the monitor.
-- 01, "Defects, actions, causes": "a unit ends settled if .. none of the four defects stands, and accepted label and trace are the expected ones".
use Rattle.std.specs.Prelude.{◌≡◌, ℕ, true, false, length, get_or}
use Rattle.trace_message.specs.Message.{message, top_bits_clear}
use Rattle.overhead.specs.Labels.{fits}
use Rattle.overhead.specs.Defects.{remote_of}
use Rattle.monitor.specs.declared.Overhead.{Overhead}
use Rattle.settings.specs.declared.Settings.{Settings}
use Rattle.monitor.specs.declared.Monitor.{Monitor}

-- the containers of one message sent over and over after which the monitor is settled: up to 15 stray bytes, and three messages
abbrev pub enough : ℕ
enough = 63

-- what is sent and what is expected, as the monitor needs them: one label throughout, which is not 00 and fits the one expected; 15 characters with top bit 0
pub record Setting (sent : ℕ) (e : Settings) : Type 0 where
  pub label : sent ≡ 0 → ⊥
  pub fitting : fits sent e.label ≡ true
  pub size : length e.trace ≡ 15
  pub low : top_bits_clear e.trace ≡ true

-- a container with the label that is sent, no remote defect, and the byte at place i of the message expected in J1
pub record Like (sent : ℕ) (e : Settings) (i : ℕ) (c : Overhead) : Type 0 where
  pub label : c.c2 ≡ sent
  pub remote : remote_of c.g1 ≡ false
  pub byte : c.j1 ≡ get_or (message e.trace) i 0

-- the message being gathered has its 15 places, as every monitor of the code has by its type
abbrev pub Whole : Monitor → Type 0
Whole m = length m.watch.trace.gathered.chars ≡ 15
