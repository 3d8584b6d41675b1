-- The number and the place of what is equal to a case; the case's own are computed. Assumes nothing.
use mathlib.Core.Path.{◌≡◌}
use Prim.Native.Nat.{ℕ}
use lib.ListN.{get_or}
use Rattle.refusals.specs.Refusals.{trace_places, number_of, places_of, answer_place}
use Rattle.refusals.specs.declared.TraceFault.{TraceFault}
use Rattle.refusals.specs.declared.Refusal.{Refusal}
use Rattle.std.specs.Prelude.{Result, ⊤}

module _ (n : ℕ) where
  pub number_as : (x y : Refusal) → x ≡ y → n ≡ number_of y → n ≡ number_of x
  number_as x y e h = rw e h

  pub place_as_trace : (t u : TraceFault) → t ≡ u → n ≡ get_or (trace_places u) 0 0 → n ≡ get_or (trace_places t) 0 0
  place_as_trace t u e h = rw e h

  pub place_as : (x y : Refusal) → x ≡ y → n ≡ get_or (places_of y) 0 0 → n ≡ get_or (places_of x) 0 0
  place_as x y e h = rw e h

  pub answer_place_as : (a b : Result ⊤ Refusal) → a ≡ b → n ≡ answer_place b → n ≡ answer_place a
  answer_place_as a b e h = rw e h
