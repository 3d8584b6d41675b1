-- Each row of a record's table has the number, and names the places, that the definitions give its case; and what is answered of places, by the case. Assumes nothing.
use mathlib.Core.Path.{◌≡◌, refl, ap}
use mathlib.Core.List.{List, [], ◌∷◌}
use Prim.Native.Nat.{ℕ, ◌≤◌}
use native.Mathlib.Omega.{arith}
use lib.ListN.{length}
use Rattle.refusals.specs.Refusals.{rows_at, trace_places}
use Rattle.refusals.specs.declared.TraceFault.{TraceFault}
use Rattle.refusals.specs.declared.TraceFault.TheVariants.{Below, Above, Spaces}
use Rattle.refusals.proofs.Wrong.{Numbered, trace_says, numbered_row, numbered_last, numbered_rows, numbered_both}
use Rattle.settings.specs.Settings.{trace_faults}
use Rattle.settings.proofs.Refuses.{trace_numbered}
use Rattle.records.specs.Refusals.{catalogue_places, catalogue_says, places_given, places_in}
use Rattle.records.specs.Faults.{record_faults}
use Rattle.records.specs.declared.Places.{Places}
use Rattle.records.specs.declared.Refusal.{Refusal}
use Rattle.records.specs.declared.Refusal.TheVariants.{Length, Mark, Circuit, Label, Trace, Flags, Repeated, NotListed}

-- ---- the rows

-- the place of a record, or of a line, goes between the number and the places of the part
unfoldable pub behind : ℕ → List ℕ → List ℕ
behind place [] = []
behind place (n ∷ ps) = n ∷ place ∷ ps

trace_rows : (place : ℕ) (trace : List ℕ) → Numbered catalogue_says (rows_at (place ∷ []) (Trace place) (trace_faults trace))
unfolding catalogue_says trace_says behind
trace_rows place trace = numbered_rows trace_says catalogue_says (place ∷ []) (Trace place) (λ x n ps e. ap (behind place) e) (trace_faults trace) (trace_numbered trace)

pub record_numbered : (mark : List ℕ) (place : ℕ) (r : List ℕ) → Numbered catalogue_says (record_faults mark place r)
unfolding record_faults catalogue_says
record_numbered mark place r = search (numbered_row, numbered_both, numbered_last, trace_rows)

-- ---- the places that are answered

-- no refusal names more than two, so none is lost
two_of_trace : (place : ℕ) (t : TraceFault) → length (place ∷ trace_places t) ≤ 2
unfolding trace_places
two_of_trace place (Below p) = omega arith
two_of_trace place (Above p) = omega arith
two_of_trace place Spaces = omega arith

two_at_most : (x : Refusal) → length (catalogue_places x) ≤ 2
two_at_most Length = omega arith
two_at_most (Mark p) = omega arith
two_at_most (Circuit p) = omega arith
two_at_most (Label p) = omega arith
two_at_most (Trace p t) = two_of_trace p t
two_at_most (Flags p) = omega arith
two_at_most (Repeated p q) = omega arith
two_at_most NotListed = omega arith

none_lost : (ps : List ℕ) → length ps ≤ 2 → places_in (places_given ps) ≡ ps
none_lost [] h = refl
none_lost (p ∷ []) h = refl
none_lost (p ∷ q ∷ []) h = refl
none_lost (p ∷ q ∷ o ∷ more) h = absurd (omega arith)

pub named_all : (x : Refusal) (r : Places) → r ≡ places_given (catalogue_places x) → places_in r ≡ catalogue_places x
named_all x r e = rw e (none_lost (catalogue_places x) (two_at_most x))
