-- The pairs of a file's records in the order in which their traces are compared, and what the visit of them comes to: refusal 13 of 01, "two records with one trace",
-- and, by ask 13 of 02, "how many pairs of traces it compared", "later record by later record, stopping at the first repeat".
use Rattle.std.specs.Prelude.{ℕ, zero, suc, ◌+◌, Bool, cond, List, [], ◌∷◌, ◌++◌}
use Rattle.trace_message.specs.Message.{alike}
use Rattle.refusals.specs.Refusals.{Fault, no_at}
use Rattle.records.specs.Record.{Kind, record_at, trace_in}
use Rattle.records.specs.declared.Refusal.{Refusal}
use Rattle.records.specs.declared.Refusal.TheVariants.{Repeated}

-- ---- in which order

-- two records of a file, counted from 0: a later one, and one before it
pub record Pair : Type 0 where
  pub later : ℕ
  pub first : ℕ

-- record j with each of the n records from record i on
unfoldable pub pairs_with : ℕ → ℕ → ℕ → List Pair
pairs_with j i zero = []
pairs_with j i (suc n) = record { later = j; first = i } ∷ pairs_with j (i + 1) n

-- each of the n records from record j on, with all that stand before it: "later record by later record"
unfoldable pub pairs_from : ℕ → ℕ → List Pair
pairs_from j zero = []
pairs_from j (suc n) = pairs_with j 0 j ++ pairs_from (j + 1) n

-- ---- which are visited

-- "two records with one trace"
unfoldable pub one_trace : Kind → List ℕ → ℕ → ℕ → Bool
one_trace kind s i j = alike (trace_in (record_at kind s i)) (trace_in (record_at kind s j))

-- refusal 13, with the two places from 1: the "later record that repeats a trace, with the first record that has it"
unfoldable pub repeated : Pair → Fault Refusal
repeated p = no_at 13 ((p.later + 1) ∷ (p.first + 1) ∷ []) (Repeated (p.later + 1) (p.first + 1))

-- what a visit of pairs comes to: how many were compared, and the repeat that it stopped at, or none
pub record Visit : Type 0 where
  pub compared : ℕ
  pub repeats : List (Fault Refusal)

-- one pair more, compared before the others
unfoldable pub one_more : Visit → Visit
one_more v = record { compared = suc v.compared; repeats = v.repeats }

-- the pairs visited in their order, "stopping at the first repeat"
unfoldable pub visit : Kind → List ℕ → List Pair → Visit
visit kind s [] = record { compared = 0; repeats = [] }
visit kind s (p ∷ ps) =
    cond (one_trace kind s p.first p.later) (record { compared = 1; repeats = repeated p ∷ [] }) (one_more (visit kind s ps))
