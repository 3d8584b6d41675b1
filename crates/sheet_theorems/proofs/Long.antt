-- A text that is longer than 512 lines of 80 bytes need not be held whole: it has more than 512 lines, or its first 41,473 bytes decide.
use mathlib.Core.Path.{◌≡◌, refl, sym, ap, ◌∙◌}
use mathlib.Core.Bool.{Bool, true, false, cond, not, ◌&&◌}
use mathlib.Core.List.{List, [], ◌∷◌, ◌++◌}
use Prim.Native.Nat.{ℕ, zero, suc, ◌+◌, ◌*◌, ◌<◌, ◌≤◌}
use native.Mathlib.Omega.{arith}
use lib.Dec.{eqb, ltb, leb}
use lib.ListN.{length, drop, length-drop, length-append}
use lib.Seq.{drop-drop, drop-append-le}
use borrow.Author.Tests.{lt-ltb, le-ltb, le-leb, lt-leb, ltb-true, ltb-false}
use Rattle.refusals.specs.Refusals.{Fault, due}
use Rattle.split.specs.Split.{up_to, past}
use Rattle.split.proofs.Laws.{drop_up_to}
use Rattle.sheet_line.specs.Line.{well_formed, line_faults, line_judged}
use Rattle.sheet_line.specs.declared.LineFault.{LineFault}
use Rattle.sheet_line.specs.declared.LineFault.TheVariants.{Malformed}
use Rattle.std.specs.Prelude.{Err}
use Rattle.sheet_line.proofs.Ways.{wrong_malformed, sound_short}
use Rattle.importing.specs.Import.{lf, Cut, cut, onto, lines_of, most_lines, faults_from, import_faults, first_of, import_answer, import_of}
use Rattle.sheet_refusals.specs.declared.Refusal.{Refusal}
use Rattle.sheet_refusals.specs.declared.Refusal.TheVariants.{TooMany, Line}
use Rattle.importing.proofs.Walk.{ended_in, lines_first}
use Rattle.importing.proofs.Faulty.{first_both, first_hit, first_rest}

-- ---- the line that begins at a place, and the place behind it

abbrev line_at : List ℕ → ℕ → List ℕ
line_at s at = up_to lf (drop at s)

abbrev next_of : List ℕ → ℕ → ℕ
next_of s at = at + length (line_at s at) + 1

module _ (s : List ℕ) (at : ℕ) (h : at < length s) where
  ended_at : ended_in (drop at s) ≡ leb (next_of s at) (length s)
  unfolding ended_in
  ended_at = go (ltb (length (line_at s at)) (length (drop at s))) refl
    where
      go : (b : Bool) → ltb (length (line_at s at)) (length (drop at s)) ≡ b → b ≡ leb (next_of s at) (length s)
      go true e = sym (le-leb (next_of s at) (length s) (omega (arith, ltb-true (length (line_at s at)) (length (drop at s)) e, length-drop at s)))
      go false e = sym (lt-leb (next_of s at) (length s) (omega (arith, ltb-false (length (line_at s at)) (length (drop at s)) e, length-drop at s)))

  past_at : past lf (drop at s) ≡ drop (next_of s at) s
  past_at =
      let q : at + suc (length (line_at s at)) ≡ next_of s at = omega arith in
      sym (drop_up_to lf (drop at s)) ∙ drop-drop (suc (length (line_at s at))) at s ∙ ap (λ (k : ℕ). drop k s) q

  lines_at : lines_of (drop at s) ≡ cut (line_at s at) (leb (next_of s at) (length s)) ∷ lines_of (drop (next_of s at) s)
  lines_at =
      lines_first (drop at s) (omega (arith, length-drop at s))
      ∙ ap (λ (b : Bool). cut (line_at s at) b ∷ lines_of (past lf (drop at s))) ended_at
      ∙ ap (λ (l : List ℕ). cut (line_at s at) (leb (next_of s at) (length s)) ∷ lines_of l) past_at

-- ---- what stands behind a text changes none of its lines but the last

up_to_within : (b : ℕ) (s t : List ℕ) → length (up_to b s) < length s → up_to b (s ++ t) ≡ up_to b s
unfolding up_to
up_to_within b [] t h = absurd (omega arith)
up_to_within b (x ∷ s) t h = go (eqb x b) (up_to_within b s t) h
  where
    go : (q : Bool) → (length (up_to b s) < length s → up_to b (s ++ t) ≡ up_to b s) → length (cond q [] (x ∷ up_to b s)) < suc (length s) → cond q [] (x ∷ up_to b (s ++ t)) ≡ cond q [] (x ∷ up_to b s)
    go true i h = refl
    go false i h = ap (λ (l : List ℕ). x ∷ l) (i (omega arith))

up_to_over : (b : ℕ) (s t : List ℕ) → length s ≤ length (up_to b s) → length s ≤ length (up_to b (s ++ t))
unfolding up_to
up_to_over b [] t h = omega arith
up_to_over b (x ∷ s) t h = go (eqb x b) (up_to_over b s t) h
  where
    go : (q : Bool) → (length s ≤ length (up_to b s) → length s ≤ length (up_to b (s ++ t))) → suc (length s) ≤ length (cond q [] (x ∷ up_to b s)) → suc (length s) ≤ length (cond q [] (x ∷ up_to b (s ++ t)))
    go true i h = absurd (omega arith)
    go false i h = omega (arith, i (omega arith))

onto_grows : (b : ℕ) (ls ms : List Cut) → length ls ≤ length ms → length (onto b ls) ≤ length (onto b ms)
unfolding onto
onto_grows b [] [] h = omega arith
onto_grows b [] (m ∷ ms) h = omega arith
onto_grows b (l ∷ ls) [] h = absurd (omega arith)
onto_grows b (l ∷ ls) (m ∷ ms) h = omega arith

lines_grow : (s t : List ℕ) → length (lines_of s) ≤ length (lines_of (s ++ t))
unfolding lines_of
lines_grow [] t = omega arith
lines_grow (b ∷ s) t = go (eqb b lf) (lines_grow s t)
  where
    go : (q : Bool) → length (lines_of s) ≤ length (lines_of (s ++ t)) → length (cond q (cut [] true ∷ lines_of s) (onto b (lines_of s))) ≤ length (cond q (cut [] true ∷ lines_of (s ++ t)) (onto b (lines_of (s ++ t))))
    go true h = omega arith
    go false h = onto_grows b (lines_of s) (lines_of (s ++ t)) h

-- ---- the first of what is wrong with two lists of lines

record Both (k : ℕ) (ls ms : List Cut) : Type 0 where
  why : Refusal
  first_l : first_of (faults_from k ls) ≡ Err why
  first_m : first_of (faults_from k ms) ≡ Err why

abbrev judged : Bool → List ℕ → LineFault → Type 0
judged ended s x = line_judged (line_faults ended s) ≡ Err x

faulty : (k : ℕ) (ended : Bool) (s : List ℕ) (ls : List Cut) (x : LineFault) → judged ended s x → first_of (faults_from k (cut s ended ∷ ls)) ≡ Err (Line x (k + 1))
unfolding faults_from
faulty k ended s ls x e = first_hit (line_faults ended s) (faults_from (k + 1) ls) (k + 1) x e

fine : (k : ℕ) (s : List ℕ) (ls : List Cut) (x : Refusal) → line_faults true s ≡ [] → first_of (faults_from (k + 1) ls) ≡ Err x → first_of (faults_from k (cut s true ∷ ls)) ≡ Err x
unfolding faults_from line_judged
fine k s ls x e f = first_rest (line_faults true s) (faults_from (k + 1) ls) (k + 1) (ap line_judged e) ∙ f

malformed : (ended : Bool) (s : List ℕ) → (ended && well_formed s) ≡ false → judged ended s Malformed
malformed ended s e = sym (wrong_malformed s ended (well_formed s) refl (ap not e))

too_long : (ended : Bool) (s : List ℕ) → 80 < length s → (ended && well_formed s) ≡ false
unfolding well_formed
too_long true s h = rw (lt-leb (length s) 80 h)
too_long false s h = refl

-- a text whose first line is too long
long_line : (k : ℕ) (s : List ℕ) → 0 < length s → 80 < length (up_to lf s) → first_of (faults_from k (lines_of s)) ≡ Err (Line Malformed (k + 1))
long_line k s h l =
    let ended = leb (next_of s 0) (length s) in
    ap (λ (ls : List Cut). first_of (faults_from k ls)) (lines_at s 0 h)
    ∙ faulty k ended (up_to lf s) (lines_of (drop (next_of s 0) s)) Malformed (malformed ended (up_to lf s) (too_long ended (up_to lf s) l))

-- ---- of at most m lines, more bytes than m lines of 80 have

module _ (k m : ℕ) (head rest : List ℕ) (long : 81 * suc m < length head) where
  abbrev whole : List ℕ
  whole = head ++ rest

  abbrev first : List ℕ
  first = up_to lf head

  some : 0 < length head
  some = omega arith

  whole_long : length whole ≡ length head + length rest
  whole_long = length-append head rest

  -- an LF ends the first line within the beginning
  module _ (h : length first < length head) where
    head_lines : lines_of head ≡ cut first true ∷ lines_of (drop (suc (length first)) head)
    head_lines =
        let n : 0 + length first + 1 ≡ suc (length first) = omega arith in
        rw (n, le-leb (suc (length first)) (length head) (omega arith)) at (lines_at head 0 some)

    whole_lines : lines_of whole ≡ cut first true ∷ lines_of (drop (suc (length first)) head ++ rest)
    whole_lines =
        let n : 0 + length first + 1 ≡ suc (length first) = omega arith in
        let i : suc (length first) ≤ length head = omega arith in
        rw (up_to_within lf head rest h, n, le-leb (suc (length first)) (length whole) (omega (arith, whole_long)), drop-append-le (suc (length first)) head rest i) at (lines_at whole 0 (omega (arith, whole_long)))

    on : (fs : List (Fault LineFault)) → line_faults true first ≡ fs → (length (lines_of whole) ≤ suc m)
        → (81 * m < length (drop (suc (length first)) head) → length (lines_of (drop (suc (length first)) head ++ rest)) ≤ m → Both (k + 1) (lines_of (drop (suc (length first)) head ++ rest)) (lines_of (drop (suc (length first)) head)))
        → Both k (lines_of whole) (lines_of head)
    unfolding line_judged
    on [] e l next =
        let short = sound_short true first e in
        let b = next (omega (arith, length-drop (suc (length first)) head)) (omega (arith, ap length whole_lines)) in
        record {
          why = b.why;
          first_l = ap (λ (ls : List Cut). first_of (faults_from k ls)) whole_lines ∙ fine k first (lines_of (drop (suc (length first)) head ++ rest)) b.why e b.first_l;
          first_m = ap (λ (ls : List Cut). first_of (faults_from k ls)) head_lines ∙ fine k first (lines_of (drop (suc (length first)) head)) b.why e b.first_m;
        }
    on (f ∷ fs) e l next = record {
      why = Line f.why (k + 1);
      first_l = ap (λ (ls : List Cut). first_of (faults_from k ls)) whole_lines ∙ faulty k true first (lines_of (drop (suc (length first)) head ++ rest)) f.why (ap line_judged e);
      first_m = ap (λ (ls : List Cut). first_of (faults_from k ls)) head_lines ∙ faulty k true first (lines_of (drop (suc (length first)) head)) f.why (ap line_judged e);
    }

  -- none does: the line is too long, in the beginning alone too
  over : length head ≤ length first → Both k (lines_of whole) (lines_of head)
  over h =
      let w = up_to_over lf head rest h in
      record {
        why = Line Malformed (k + 1);
        first_l = long_line k whole (omega (arith, whole_long)) (omega arith);
        first_m = long_line k head some (omega arith);
      }

same_first : (m k : ℕ) (head rest : List ℕ) → 81 * m < length head → length (lines_of (head ++ rest)) ≤ m → Both k (lines_of (head ++ rest)) (lines_of head)
same_first zero k head rest long few = absurd (omega (arith, ap length (lines_at (head ++ rest) 0 (omega (arith, length-append head rest)))))
same_first (suc m) k head rest long few = go (ltb (length (up_to lf head)) (length head)) refl (same_first m (k + 1) (drop (suc (length (up_to lf head))) head) rest)
  where
    go : (q : Bool) → ltb (length (up_to lf head)) (length head) ≡ q
        → (81 * m < length (drop (suc (length (up_to lf head))) head) → length (lines_of (drop (suc (length (up_to lf head))) head ++ rest)) ≤ m → Both (k + 1) (lines_of (drop (suc (length (up_to lf head))) head ++ rest)) (lines_of (drop (suc (length (up_to lf head))) head)))
        → Both k (lines_of (head ++ rest)) (lines_of head)
    go true e next = on k m head rest long (ltb-true (length (up_to lf head)) (length head) e) (line_faults true (up_to lf head)) refl few next
    go false e next = over k m head rest long (ltb-false (length (up_to lf head)) (length head) e)

-- ---- the theorem

-- 512 lines of 80 bytes with their LFs, and one byte more
abbrev pub enough : ℕ
enough = 41473

few_refused : (s : List ℕ) (x : Refusal) → length (lines_of s) ≤ most_lines → first_of (faults_from 0 (lines_of s)) ≡ Err x → import_of s ≡ Err x
unfolding import_of import_faults due import_answer
few_refused s x h e = rw (le-ltb most_lines (length (lines_of s)) h, first_both (faults_from 0 (lines_of s)) _ x e)

pub many_refused : (s : List ℕ) → most_lines < length (lines_of s) → import_of s ≡ Err TooMany
unfolding import_of import_faults due first_of import_answer
many_refused s h = rw (lt-ltb most_lines (length (lines_of s)) h)

pub long_text : (head rest : List ℕ) → length head ≡ enough → import_of (head ++ rest) ≡ cond (ltb most_lines (length (lines_of (head ++ rest)))) (Err TooMany) (import_of head)
long_text head rest l = go (ltb most_lines (length (lines_of (head ++ rest)))) refl
  where
    go : (q : Bool) → ltb most_lines (length (lines_of (head ++ rest))) ≡ q → import_of (head ++ rest) ≡ cond q (Err TooMany) (import_of head)
    go true e = many_refused (head ++ rest) (ltb-true most_lines (length (lines_of (head ++ rest))) e)
    go false e =
        let few = ltb-false most_lines (length (lines_of (head ++ rest))) e in
        let b = same_first most_lines 0 head rest (omega arith) few in
        few_refused (head ++ rest) b.why few b.first_l ∙ sym (few_refused head b.why (omega (arith, few, lines_grow head rest)) b.first_m)
