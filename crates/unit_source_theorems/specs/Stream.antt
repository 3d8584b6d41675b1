-- What the units of a source carry, call after call: the theorems about its stream speak of this.
use Rattle.std.specs.Prelude.{ℕ, zero, suc, ◌+◌, ◌*◌, ◌≤◌, Bool, true, false, ◌&&◌, not, ltb, List, [], ◌∷◌, ◌++◌, length, take, drop, Result, Ok, Err, ⊤}
use Rattle.refusals.specs.declared.Refusal.{Refusal}
use Rattle.shape.specs.Shape.{Shape, held_count, run_from}
use Rattle.shape.specs.declared.Adjustment.{Adjustment}
use Rattle.unit_source.specs.Source.{adjusts, source_wait_after}
use Rattle.unit_source_theorems.specs.Sending.{Sending, unit_source_called, sending_after}

unfoldable pub is_done : Result ⊤ Refusal → Bool
is_done (Ok tt) = true
is_done (Err x) = false

module _ (s : Shape) (box : ℕ → List ℕ) where
  -- a unit's share: the container bytes in it, from where its run begins to its end
  unfoldable pub share_in : Adjustment → Result ⊤ Refusal → List ℕ → List ℕ
  share_in a (Ok tt) unit = drop (run_from s.step a) unit
  share_in a (Err x) unit = []

  abbrev pub share : Sending → Adjustment → List ℕ
  share x a = share_in a (unit_source_called s box x a).made.answer (unit_source_called s box x a).unit

  -- what was sent before of the current container
  abbrev pub under_way : Sending → List ℕ
  under_way x = take (held_count s x.state.offset) (box x.number)

  -- ---- a row of calls

  unfoldable pub at_end : Sending → List Adjustment → Sending
  at_end x [] = x
  at_end x (a ∷ row) = at_end (sending_after s box x a) row

  -- the shares, joined
  unfoldable pub shares : Sending → List Adjustment → List ℕ
  shares x [] = []
  shares x (a ∷ row) = share x a ++ shares (sending_after s box x a) row

  -- how many containers the calls said ended
  unfoldable pub ended : Sending → List Adjustment → ℕ
  ended x [] = 0
  ended x (a ∷ row) = (unit_source_called s box x a).made.ended + ended (sending_after s box x a) row

  -- every call of the row is done
  unfoldable pub all_done : Sending → List Adjustment → Bool
  all_done x [] = true
  all_done x (a ∷ row) = is_done (unit_source_called s box x a).made.answer && all_done (sending_after s box x a) row

-- adjustments with "at least three units" between them, and after the last one before the row
unfoldable pub spaced : ℕ → List Adjustment → Bool
spaced wait [] = true
spaced wait (a ∷ row) = not (adjusts a && ltb wait 3) && spaced (source_wait_after a wait) row

-- n containers from number i on, joined
unfoldable pub joined : (ℕ → List ℕ) → ℕ → ℕ → List ℕ
joined box i zero = []
joined box i (suc n) = box i ++ joined box (i + 1) n

-- among the bytes that were sent is the last byte of the container that comes i after the current one
abbrev pub LastSent : Shape → List ℕ → ℕ → Type 0
LastSent s sent i = suc i * s.size ≤ length sent
