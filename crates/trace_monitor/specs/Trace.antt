-- The trace, of 01, "Defects, actions, causes": J1, byte after byte. What a good message is stands in the crate trace; 20 to 7E is not asked of what is received.
use Rattle.std.specs.Prelude.{ℕ, ◌+◌, ◌-◌, Bool, true, false, cond, not, List, eqb, ltb, leb, set, replicate}
use Rattle.counts.specs.Counts.{more, run_on}
use Rattle.trace_message.specs.Message.{good_message, alike}
use Rattle.trace_monitor.specs.declared.Gathered.{Gathered}
use Rattle.trace_monitor.specs.declared.Trace.{Trace}

-- ---- one byte

-- The byte at its place: "a set top bit always starts one anew"; a byte outside any; one of the first 14 characters; the last
unfoldable pub gathered_of : Gathered → ℕ → Gathered
gathered_of g j1 =
    cond (leb 0x80 j1) (record { place = 1; start = j1; chars = g.chars })
    (cond (eqb g.place 0) g
    (cond (ltb g.place 15) (record { place = g.place + 1; start = g.start; chars = set g.chars (g.place - 1) j1 })
    (record { place = 0; start = g.start; chars = set g.chars 14 j1 })))

-- the byte at this place ends a good message, g being what is gathered with it: "a start byte, 15 bytes with top bit 0, right check"
unfoldable pub ends_good : ℕ → ℕ → Gathered → Bool
ends_good place j1 g = cond (leb 0x80 j1) false (cond (ltb place 15) false (good_message g.start g.chars))

-- "A cut or wrong one, or a byte outside any": a start byte cuts at places 1 to 15; at place 0 there is nothing to cut
unfoldable pub spoils : ℕ → ℕ → Bool
spoils place j1 = cond (leb 0x80 j1) (ltb 0 place) (cond (eqb place 0) true (leb 15 place))

-- ---- a container with a good message

-- "at a run of three or more equal ones the message is accepted, and dTIM becomes: accepted differs from expected";
-- "a good message puts the count to 0, whatever it was"
unfoldable pub with_good : Trace → Gathered → List ℕ → Trace
with_good t g expected =
    let run = run_on (alike g.chars t.last) t.run 3 in
    cond (leb 3 run)
    (record { gathered = g; last = g.chars; run = run; known = true; accepted = g.chars; without = 0; tim = not (alike g.chars expected) })
    (record { gathered = g; last = g.chars; run = run; known = t.known; accepted = t.accepted; without = 0; tim = t.tim })

-- ---- a container without

-- "48 containers without a good message set dTIM and the message run to 0, and so does each later one without"; what spoils a message "sets the message run to 0"
unfoldable pub without_good : Trace → Gathered → Bool → Trace
without_good t g spoilt =
    let n = more t.without 48 in
    cond (leb 48 n)
    (record { gathered = g; last = t.last; run = 0; known = t.known; accepted = t.accepted; without = n; tim = true })
    (record { gathered = g; last = t.last; run = cond spoilt 0 t.run; known = t.known; accepted = t.accepted; without = n; tim = t.tim })

-- ---- the machine

-- one more container, g being what is gathered with its byte
unfoldable pub trace_of : Trace → ℕ → List ℕ → Trace
trace_of t j1 expected =
    let g = gathered_of t.gathered j1 in
    cond (ends_good t.gathered.place j1 g) (with_good t g expected) (without_good t g (spoils t.gathered.place j1))

-- nothing gathered, nothing accepted, dTIM not set, and the count given
unfoldable pub blank_trace : ℕ → Trace
blank_trace without =
    record {
      gathered = record { place = 0; start = 0; chars = replicate 15 0 };
      last = replicate 15 0;
      run = 0;
      known = false;
      accepted = replicate 15 0;
      without = without;
      tim = false;
    }
