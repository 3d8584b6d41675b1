-- The loop over the lines for the first of what is wrong, and what holds where nothing is.
use mathlib.Core.Path.{◌≡◌, refl, sym, ◌∙◌}
use mathlib.Core.Bool.{Bool}
use mathlib.Core.List.{List, [], ◌∷◌, ◌++◌}
use Prim.Native.Nat.{ℕ, ◌+◌}
use native.Mathlib.Omega.{arith}
use Rattle.refusals.specs.Refusals.{Fault, rows_at}
use Rattle.refusals.proofs.Joined.{joined_none, rows_none}
use Rattle.sheet_line.specs.Line.{line_faults, line_judged}
use Rattle.sheet_line.specs.declared.LineFault.{LineFault}
use Rattle.std.specs.Prelude.{Result, Ok, Err, ⊤}
use Rattle.sheet_line.specs.Inner.{Sound}
use Rattle.sheet_line.proofs.Ways.{sound}
use Rattle.importing.specs.Import.{Cut, lines_of, faults_from, first_of}
use Rattle.importing.specs.Inner.{Parts}
use Rattle.sheet_refusals.specs.declared.Refusal.{Refusal}
use Rattle.sheet_refusals.specs.declared.Refusal.TheVariants.{Line}

-- ---- the first of two tables

pub first_both : (xs ys : List (Fault Refusal)) (x : Refusal) → first_of xs ≡ Err x → first_of (xs ++ ys) ≡ Err x
unfolding first_of
first_both [] ys x e = let z : ◌≡◌ {A = ℕ} 0 1 = cc in absurd (omega arith)
first_both (f ∷ xs) ys x e = e

pub first_none : (xs : List (Fault Refusal)) → first_of xs ≡ Ok tt → xs ≡ []
unfolding first_of
first_none [] e = refl
first_none (x ∷ xs) e = let z : ◌≡◌ {A = ℕ} 0 1 = cc in absurd (omega arith)

-- ---- a line's table in the text's

abbrev line_rows : ℕ → List (Fault LineFault) → List (Fault Refusal)
line_rows place fs = rows_at (place ∷ []) (λ (x : LineFault). Line x place) fs

pub first_hit : (fs : List (Fault LineFault)) (ys : List (Fault Refusal)) (place : ℕ) (x : LineFault) → line_judged fs ≡ Err x → first_of (line_rows place fs ++ ys) ≡ Err (Line x place)
unfolding first_of line_judged rows_at
first_hit [] ys place x e = let z : ◌≡◌ {A = ℕ} 0 1 = cc in absurd (omega arith)
first_hit (f ∷ fs) ys place x e = let q : f.why ≡ x = cc in rw q

pub first_rest : (fs : List (Fault LineFault)) (ys : List (Fault Refusal)) (place : ℕ) → line_judged fs ≡ Ok tt → first_of (line_rows place fs ++ ys) ≡ first_of ys
unfolding first_of line_judged rows_at
first_rest [] ys place e = refl
first_rest (f ∷ fs) ys place e = let z : ◌≡◌ {A = ℕ} 0 1 = cc in absurd (omega arith)

-- ---- the loop

-- l is the first line of the rest, and f what is wrong first with it
module _ (rest l further : List ℕ) (ended : Bool) (k : ℕ) (f : Result ⊤ LineFault) (p : Result ⊤ Refusal) (parts : Parts rest l ended further)
    (is_f : f ≡ line_judged (line_faults ended l)) (e : first_of (faults_from k (lines_of rest)) ≡ p) where
  here : first_of (line_rows (k + 1) (line_faults ended l) ++ faults_from (k + 1) (lines_of further)) ≡ p
  unfolding faults_from
  here = rw parts.are at e

  pub fault_hit : (x : LineFault) → f ≡ Err x → Err (Line x (k + 1)) ≡ p
  fault_hit x g = sym (first_hit (line_faults ended l) (faults_from (k + 1) (lines_of further)) (k + 1) x (sym is_f ∙ g)) ∙ here

  pub fault_turn : f ≡ Ok tt → first_of (faults_from (k + 1) (lines_of further)) ≡ p
  fault_turn g = sym (first_rest (line_faults ended l) (faults_from (k + 1) (lines_of further)) (k + 1) (sym is_f ∙ g)) ∙ here

pub fault_end : (rest : List ℕ) (k : ℕ) (p : Result ⊤ Refusal) → lines_of rest ≡ [] → first_of (faults_from k (lines_of rest)) ≡ p → Ok tt ≡ p
unfolding faults_from first_of
fault_end rest k p h e = rw h at e

-- ---- where nothing is wrong

pub data Sounds : List Cut → Type 0 where
  none : Sounds []
  more : {l : Cut} {ls : List Cut} → Sound l.bytes → Sounds ls → Sounds (l ∷ ls)

sounds : (k : ℕ) (ls : List Cut) → faults_from k ls ≡ [] → Sounds ls
unfolding faults_from
sounds k [] e = none
sounds k (l ∷ ls) e =
    let p = joined_none (line_rows (k + 1) (line_faults l.ended l.bytes)) (faults_from (k + 1) ls) e in
    more (sound l.ended l.bytes (rows_none ((k + 1) ∷ []) (λ (x : LineFault). Line x (k + 1)) (line_faults l.ended l.bytes) p.0)) (sounds (k + 1) ls p.1)

pub sounds_of : (s : List ℕ) → first_of (faults_from 0 (lines_of s)) ≡ Ok tt → Sounds (lines_of s)
sounds_of s e = sounds 0 (lines_of s) (first_none (faults_from 0 (lines_of s)) e)
