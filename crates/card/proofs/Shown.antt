-- What a host is shown of the settings' answer: its number and its place. Assumes nothing.
use mathlib.Core.Path.{◌≡◌, refl}
use mathlib.Core.List.{List}
use Prim.Native.Nat.{ℕ}
use Rattle.refusals.specs.Refusals.{answer_number, answer_place}
use Rattle.std.specs.Prelude.{Result, ⊤}
use Rattle.refusals.specs.declared.Refusal.{Refusal}
use Rattle.settings.specs.Faults.{settings_answer, settings_check, settings_place}
use Rattle.settings.proofs.Refuses.{check_number, check_place}
use Rattle.card.specs.declared.CardRefusal.{CardRefusal}

pub shown : (label : ℕ) (characters : List ℕ) (a : Result ⊤ Refusal) (n p : ℕ) → a ≡ settings_answer label characters → n ≡ answer_number a → p ≡ answer_place a
    → ◌≡◌ {A = CardRefusal} (record { number = n; place = p }) (record { number = settings_check label characters; place = settings_place label characters })
shown label characters a n p e f g = rw (check_number label characters a e n f, check_place label characters a e p g) refl
