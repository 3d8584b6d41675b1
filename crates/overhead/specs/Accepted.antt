-- What five equal ones accept, of 01, "Defects, actions, causes": a machine for any value that each container carries, the label of C2 among them.
use Rattle.std.specs.Prelude.{ℕ, true, cond, eqb, leb}
use Rattle.counts.specs.Counts.{run_on}
use Rattle.overhead.specs.declared.Accepted.{Accepted}

-- one more container: "accepted after five equal". Every value is accepted alike, of labels 00 and FF too.
unfoldable pub accepted_of : Accepted → ℕ → Accepted
accepted_of a value =
    let run = run_on (eqb value a.last) a.run 5 in
    cond (leb 5 run)
    (record { last = value; run = run; known = true; value = value })
    (record { last = value; run = run; known = a.known; value = a.value })
