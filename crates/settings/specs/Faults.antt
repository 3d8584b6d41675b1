-- What is refused of a label and a trace, and of a sink's settings: the part of 01's orders of refusal that they have in common, "4, 5", with 20 and 21 "in the place of 5".
use Rattle.std.specs.Prelude.{ℕ, not, List, [], ◌∷◌, ◌++◌, eqb, length, Result, ⊤}
use Rattle.refusals.specs.Refusals.{Fault, given, given_at, rows_at, answer_of, answer_number, answer_place}
use Rattle.refusals.specs.declared.Refusal.{Refusal}
use Rattle.refusals.specs.declared.Refusal.TheVariants.{Label, Trace}
use Rattle.refusals.specs.declared.TraceFault.TheVariants.{Below}
use Rattle.settings.specs.Settings.{label_refused, trace_faults}
use Rattle.settings.specs.declared.Settings.{Settings}

-- of a label and a trace, sent or expected
unfoldable pub path_faults : ℕ → List ℕ → List (Fault Refusal)
path_faults label trace =
    given 4 Label (label_refused label)
    ++ rows_at [] Trace (trace_faults trace)

-- of all that a sink is set to: every flag is good
unfoldable pub settings_faults : Settings → List (Fault Refusal)
settings_faults e = path_faults e.label e.trace

-- of settings alone, before any call, their characters as a row of bytes: other than fifteen are no trace, and no one character of them is named
unfoldable pub alone_faults : ℕ → List ℕ → List (Fault Refusal)
alone_faults label characters =
    given 4 Label (label_refused label)
    ++ (given_at 5 (0 ∷ []) (Trace (Below 0)) (not (eqb (length characters) 15))
    ++ rows_at [] Trace (trace_faults characters))

-- what every call with them will answer, as far as they go
unfoldable pub settings_answer : ℕ → List ℕ → Result ⊤ Refusal
settings_answer label characters = answer_of (alone_faults label characters)

-- the number that will refuse every call with them; 0 where none will
unfoldable pub settings_check : ℕ → List ℕ → ℕ
settings_check label characters = answer_number (settings_answer label characters)

-- and the place of the character that it names; 0 where it names none
unfoldable pub settings_place : ℕ → List ℕ → ℕ
settings_place label characters = answer_place (settings_answer label characters)
