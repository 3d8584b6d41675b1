-- The answer to a call, as far as its label and its trace go, by the tests that led to it; and each row has its case's number and places. Assumes nothing.
use mathlib.Core.Path.{◌≡◌, refl, sym, ap, ◌∙◌}
use mathlib.Core.Bool.{Bool, true, false}
use mathlib.Core.List.{List, [], ◌∷◌, ◌++◌}
use Prim.Native.Nat.{ℕ, ◌+◌}
use native.Mathlib.Omega.{arith}
use lib.ListN.{length}
use borrow.Author.Tests.{eq-eqb, ne_eqb}
use Rattle.refusals.specs.Refusals.{Fault, due, no, no_at, given, rows_at, trace_number, trace_places, number_of, answer_number, answer_place, says, answer_of}
use Rattle.refusals.specs.declared.Refusal.{Refusal}
use Rattle.refusals.specs.declared.TraceFault.{TraceFault}
use Rattle.refusals.specs.declared.TraceFault.TheVariants.{Below, Above, Spaces}
use Rattle.std.specs.Prelude.{Result, Ok, Err, ⊤}
use Rattle.refusals.specs.declared.Refusal.TheVariants.{Label, Trace, State}
use Rattle.refusals.proofs.Joined.{rows_none}
use Rattle.refusals.proofs.Wrong.{due_none, number_none, Numbered, trace_says, numbered_row, numbered_last, numbered_both, numbered_rows}
use Rattle.settings.specs.declared.Settings.{Settings}
use Rattle.settings.specs.Settings.{label_refused, below, above, all_spaces, characters_from, trace_faults, judged}
use Rattle.settings.specs.Faults.{path_faults, settings_faults, alone_faults, settings_answer, settings_check, settings_place}

-- ---- a trace's rows in a call's table

rows_wrong : (fs : List (Fault TraceFault)) (t : TraceFault) → Err t ≡ judged fs → Err (Trace t) ≡ answer_of (rows_at [] Trace fs)
unfolding judged rows_at answer_of
rows_wrong [] t e = let z : ◌≡◌ {A = ℕ} 0 1 = cc in absurd (omega arith)
rows_wrong (f ∷ fs) t e = let q : t ≡ f.why = cc in rw q refl

rows_pass : (fs : List (Fault TraceFault)) → Ok tt ≡ judged fs → fs ≡ []
unfolding judged
rows_pass [] e = refl
rows_pass (f ∷ fs) e = let z : ◌≡◌ {A = ℕ} 0 1 = cc in absurd (omega arith)

-- a trace that passes has nothing wrong with it
pub passes_none : (trace : List ℕ) → Ok tt ≡ judged (trace_faults trace) → trace_faults trace ≡ []
passes_none trace e = rows_pass (trace_faults trace) e

-- ---- the numbers

characters_numbered : (place : ℕ) (bs : List ℕ) → Numbered trace_says (characters_from place bs)
unfolding characters_from trace_says trace_number trace_places
characters_numbered place [] = Numbered.none
characters_numbered place (b ∷ bs) =
    numbered_row trace_says (below b) (no_at 5 (place ∷ []) (Below place)) _ refl
    (numbered_row trace_says (above b) (no_at 20 (place ∷ []) (Above place)) _ refl
    (characters_numbered (place + 1) bs))

pub trace_numbered : (trace : List ℕ) → Numbered trace_says (trace_faults trace)
unfolding trace_faults trace_says trace_number trace_places
trace_numbered trace = numbered_both trace_says _ _ (characters_numbered 1 trace) (numbered_last trace_says (all_spaces trace) (no 21 Spaces) refl)

-- ---- the answer to a call

module _ (label : ℕ) (trace : List ℕ) where
  module _ (l : Bool) (is-l : l ≡ label_refused label) where
    pub wrong_label : l ≡ true → Err Label ≡ answer_of (path_faults label trace)
    unfolding path_faults due answer_of
    wrong_label h = rw (← is-l, h) refl

    module _ (l-no : l ≡ false) (a : Result ⊤ TraceFault) (is-a : a ≡ judged (trace_faults trace)) where
      pub wrong_trace : (t : TraceFault) → a ≡ Err t → Err (Trace t) ≡ answer_of (path_faults label trace)
      unfolding path_faults due
      wrong_trace t h = rw (← is-l, l-no) (rows_wrong (trace_faults trace) t (sym h ∙ is-a))

      pub nothing_wrong : a ≡ Ok tt → Ok tt ≡ answer_of (path_faults label trace)
      unfolding path_faults due rows_at answer_of
      nothing_wrong h = rw (← is-l, l-no, passes_none trace (sym h ∙ is-a)) refl

  pub path_numbered : Numbered says (path_faults label trace)
  unfolding path_faults says number_of trace_says
  path_numbered =
      numbered_row says (label_refused label) (no 4 Label) _ refl
      (numbered_rows trace_says says [] Trace (λ x n ps e. e) (trace_faults trace) (trace_numbered trace))

-- the settings' answer is that of their label and trace
pub settings_answer_lem : (e : Settings) (r : Result ⊤ Refusal) → r ≡ answer_of (path_faults e.label e.trace) → r ≡ answer_of (settings_faults e)
unfolding settings_faults
settings_answer_lem e r h = h

pub settings_numbered : (e : Settings) → Numbered says (settings_faults e)
unfolding settings_faults
settings_numbered e = path_numbered e.label e.trace

-- settings are not refused by 8
trace_not_8 : (t : TraceFault) → trace_number t ≡ 8 → ⊥
unfolding trace_number
trace_not_8 (Below p) h = absurd (omega arith)
trace_not_8 (Above p) h = absurd (omega arith)
trace_not_8 Spaces h = absurd (omega arith)

path_not_8 : (l : Bool) (fs : List (Fault TraceFault)) → answer_of (given 4 Label l ++ rows_at [] Trace fs) ≡ Err State → ⊥
unfolding due rows_at answer_of answer_number number_of
path_not_8 true fs h = let n : ◌≡◌ {A = ℕ} 4 8 = ap answer_number h in absurd (omega arith)
path_not_8 false [] h = let n : ◌≡◌ {A = ℕ} 0 8 = ap answer_number h in absurd (omega arith)
path_not_8 false (f ∷ fs) h = trace_not_8 f.why (ap answer_number h)

pub settings_not_8 : (e : Settings) → answer_of (settings_faults e) ≡ Err State → ⊥
unfolding settings_faults path_faults
settings_not_8 e = path_not_8 (label_refused e.label) (trace_faults e.trace)

-- settings that no number refuses: neither their label nor their trace is
pub fine_label : (e : Settings) → settings_faults e ≡ [] → label_refused e.label ≡ false
unfolding settings_faults path_faults
fine_label e h = (due_none (label_refused e.label) _ _ h).0

pub fine_trace : (e : Settings) → settings_faults e ≡ [] → trace_faults e.trace ≡ []
unfolding settings_faults path_faults
fine_trace e h = rows_none [] Trace (trace_faults e.trace) (due_none (label_refused e.label) _ _ h).1

-- and where neither is, nothing is wrong
pub path_fine : (label : ℕ) (trace : List ℕ) → label_refused label ≡ false → trace_faults trace ≡ [] → path_faults label trace ≡ []
unfolding path_faults due rows_at
path_fine label trace l t = rw (l, t) refl

-- ---- settings alone

module _ (label : ℕ) (characters : List ℕ) where
  -- fifteen characters are refused as in every call
  pub check_path : length characters ≡ 15 → settings_answer label characters ≡ answer_of (path_faults label characters)
  unfolding settings_answer alone_faults path_faults due
  check_path h = rw (eq-eqb (length characters) 15 h) refl

  pub alone_answered : (r : Result ⊤ Refusal) → r ≡ answer_of (path_faults label characters) → length characters ≡ 15 → r ≡ settings_answer label characters
  alone_answered r e h = rw (check_path h) e

  -- what is answered has the check's number, and names its place
  module _ (a : Result ⊤ Refusal) (is-a : a ≡ settings_answer label characters) where
    pub check_number : (n : ℕ) → n ≡ answer_number a → n ≡ settings_check label characters
    unfolding settings_check
    check_number n h = h ∙ ap answer_number is-a

    pub check_place : (p : ℕ) → p ≡ answer_place a → p ≡ settings_place label characters
    unfolding settings_place
    check_place p h = h ∙ ap answer_place is-a

  module _ (long : length characters ≡ 15 → ⊥) (l : Bool) (is-l : l ≡ label_refused label) where
    pub alone_label : l ≡ true → Err Label ≡ settings_answer label characters
    unfolding settings_answer alone_faults due answer_of
    alone_label h = rw (← is-l, h) refl

    pub alone_length : l ≡ false → Err (Trace (Below 0)) ≡ settings_answer label characters
    unfolding settings_answer alone_faults due answer_of
    alone_length h = rw (← is-l, h, ne_eqb (length characters) 15 long) refl

-- the check gives what every call answers to the settings, as far as they go, and 0 exactly where no number refuses them
module _ (e : Settings) (fifteen : length e.trace ≡ 15) where
  pub check_answer : settings_answer e.label e.trace ≡ answer_of (settings_faults e)
  unfolding settings_faults
  check_answer = check_path e.label e.trace fifteen

  pub check_fine : settings_check e.label e.trace ≡ 0 → settings_faults e ≡ []
  unfolding settings_check
  check_fine h = number_none (settings_faults e) (ap answer_number (sym check_answer) ∙ h)
