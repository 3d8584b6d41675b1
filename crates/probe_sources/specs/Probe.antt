-- The states and answers of the sources as plain numbers, so that tests and benchmarks in another language can read them.
use Rattle.std.specs.Prelude.{◌≡◌, ℕ, ◌+◌, ◌*◌, ◌%◌, Bool, cond, List, eqb}
use Rattle.refusals.specs.Refusals.{answer_number, answer_place}
use Rattle.shape.specs.declared.Adjustment.{Adjustment}
use Rattle.shape.specs.declared.Adjustment.TheVariants as ask
use Rattle.container.specs.Payload.{Handed}
use Rattle.container_source.specs.Source as containers
use Rattle.container_source.specs.declared.State as between-containers
use Rattle.container_source.specs.declared.Given.{Given}
use Rattle.container_source.specs.Source.{Sent}
use Rattle.unit_source.specs.Source as units
use Rattle.unit_source.specs.declared.State as between-units
use Rattle.unit_source.specs.Source.{Made}

-- a container source's state: place and parity, a byte each
unfoldable pub packed_source : between-containers.State → ℕ
packed_source s = s.place * 256 + s.parity

-- its answer: the character's place that a refusal names, in a byte, the refusal's number, 0 for none, and the state
unfoldable pub packed_sent : Sent → ℕ
packed_sent x = answer_place x.answer % 256 * 16777216 + answer_number x.answer * 65536 + packed_source x.state

-- what it is given, a number at a time
unfoldable pub given_of : ℕ → ℕ → ℕ → ℕ → ℕ → ℕ → ℕ → Bool → Given
given_of label f2 h4 f3 k3 n1 violations remote =
    record { label = label; unexamined = record { f2 = f2; h4 = h4; f3 = f3; k3 = k3; n1 = n1 }; violations = violations; remote = remote }

-- a unit source's state: offset, and the wait in a byte
unfoldable pub packed_unit : between-units.State → ℕ
packed_unit s = s.offset * 256 + s.wait

-- its answer: the refusal's number, how many ended, and the state
unfoldable pub packed_made : Made → ℕ
packed_made x = answer_number x.answer * 4294967296 + x.ended * 16777216 + packed_unit x.state

-- what it is asked
unfoldable pub adjustment_by : ℕ → Adjustment
adjustment_by asked = cond (eqb asked 0) ask.Nothing (cond (eqb asked 1) ask.Increment ask.Decrement)

-- all that a probe leaves: its number, and the bytes of the buffer that was lent
pub record Probed : Type 0 where
  pub number : ℕ
  pub bytes : List ℕ

abbrev pub Probes : ℕ → List ℕ → Probed → Type 0
Probes n bytes o = ◌≡◌ {A = Probed} (record { number = n; bytes = bytes }) o

abbrev pub probed_sent : containers.SentOutcome → Probed
probed_sent o = record { number = packed_sent o.sent; bytes = o.container }

abbrev pub probed_made : units.MadeOutcome → Probed
probed_made o = record { number = packed_made o.made; bytes = o.unit }

abbrev pub probed_handed : Handed → Probed
probed_handed o = record { number = answer_number o.answer; bytes = o.payload }
