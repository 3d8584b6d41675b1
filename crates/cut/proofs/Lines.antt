-- Every unit of a normal state may be cut: one whose word goes on from the held bytes, and one that starts anew. Assumes nothing.
use Prim.Native.Nat.{ℕ, zero, suc, ◌+◌, ◌*◌, ◌≤◌, ◌<◌}
use native.Mathlib.Omega.{arith}
use Rattle.shape.specs.Shape.{Shape, Fit, place_of, held_count, run_from}
use Rattle.shape.specs.declared.Adjustment.{Adjustment}
use Rattle.shape.proofs.Offsets.{place_low, held_none, held_some, held_low, run_begins}
use Rattle.cut.specs.Inner.{Line}

-- where bytes are held, they are a step or more
pub held_step : (s : Shape) (v : ℕ) → Fit s → v ≤ s.top → 0 < held_count s v → s.step ≤ held_count s v
held_step s zero f h p = absurd (omega (arith, held_none s))
held_step s (suc v) f h p = omega (arith, held_some s v, place_low s (suc v) f h)

-- a plain word or an adjustment, at any offset
pub line_goes : (s : Shape) (a : Adjustment) (v : ℕ) → Fit s → v ≤ s.top → Line s (held_count s v) (run_from s.step a)
line_goes s a v f h =
    let b = run_begins s.step a in
    let low = held_low s v f in
    record {
      fit = f;
      behind = b.behind;
      within = omega (arith, b.before, f.two);
      kept_low = omega arith;
      ends_within = λ p. omega (arith, b.before, held_step s v f h p);
    }

-- "new data .. and rule 3 drop the held bytes": the run begins at J1
pub line_restarts : (s : Shape) (w : ℕ) → Fit s → w ≤ s.top → Line s 0 (3 * s.step + place_of s w)
line_restarts s w f h =
    record {
      fit = f;
      behind = omega arith;
      within = omega (arith, place_low s w f h);
      kept_low = omega arith;
      ends_within = λ p. absurd (omega arith);
    }
