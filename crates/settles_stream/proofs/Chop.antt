-- A unit whose run goes on with the containers is cut into just those containers, whatever its shape. Assumes nothing.
use mathlib.Core.Path.{◌≡◌, sym, ap, ◌∙◌}
use mathlib.Core.Bool.{true, false}
use mathlib.Core.List.{List, [], ◌∷◌, ◌++◌}
use Prim.Native.Nat.{ℕ, zero, suc, ◌≤◌, ◌<◌, ◌-◌, ◌+◌, ◌*◌}
use native.Mathlib.Nat.{add-zero}
use native.Mathlib.Omega.{arith}
use lib.Dec.{ltb, leb}
use lib.ListN.{length, take, drop, length-drop, take-append-drop}
use lib.Seq.{take_at, drop_at, drop-drop, take-append-le}
use borrow.Author.Tests.{lt-ltb, le-leb, lt-leb}
use Rattle.shape.specs.Shape.{Shape, unit_length}
use Rattle.shape.proofs.Balance.{Balanced}
use Rattle.cut.specs.Cut.{one_if, next_of, inside_of, begin_of, cut_of, completed_of, inside_part, ended_of}
use Rattle.cut.specs.Inner.{Line}
use Rattle.cut.specs.declared.Cut.{Cut}
use Rattle.unit.specs.Unit.{run_of}
use Rattle.unit_source_theorems.proofs.Shares.{take_past}
use Rattle.settles_stream.specs.InOrder.{boxes}

module _ (s : Shape) (box : ℕ → List ℕ) (full : (i : ℕ) → length (box i) ≡ s.size) where
  -- ---- from a place on where a container begins

  -- container i begins at `next`: k containers begin and end in the unit, and m bytes of the one after them are held
  pub record Begun (i k m next : ℕ) (unit : List ℕ) : Type 0 where
    pub inside_is : one_if (inside_of s next) (take s.size (drop next unit)) ≡ boxes box i k
    pub rest : drop (begin_of s next) unit ≡ take m (box (i + k))

  module _ (i m next : ℕ) (unit : List ℕ) (run : drop next unit ≡ take (unit_length s - next) (box i ++ box (i + 1))) where
    -- it does not end
    pub none_ends : unit_length s ≡ next + m → m < s.size → Begun i 0 m next unit
    unfolding inside_of begin_of boxes
    none_ends e h =
        let out : leb next (3 * s.step) ≡ false = lt-leb next (3 * s.step) (omega arith) in
        let d : unit_length s - next ≡ m = omega arith in
        record {
          inside_is = simp out;
          rest = simp (out, add-zero) (run ∙ ap (λ (j : ℕ). take j (box i ++ box (i + 1))) d ∙ take-append-le m (box i) (box (i + 1)) (omega (arith, full i)));
        }

    -- it ends
    pub one_ends : unit_length s ≡ next + (s.size + m) → Begun i 1 m next unit
    unfolding inside_of begin_of boxes
    one_ends e =
        let in-it : leb next (3 * s.step) ≡ true = le-leb next (3 * s.step) (omega arith) in
        let r : drop next unit ≡ box i ++ take m (box (i + 1)) = run ∙ take_past (box i) (box (i + 1)) (unit_length s - next) m (omega (arith, full i)) in
        record {
          inside_is = simp in-it (ap (λ (l : List ℕ). l ∷ []) (ap (take s.size) r ∙ take_at (box i) (take m (box (i + 1))) s.size (full i)));
          rest = simp in-it (sym (drop-drop s.size next unit) ∙ ap (drop s.size) r ∙ drop_at (box i) (take m (box (i + 1))) s.size (full i));
        }

  -- ---- the whole unit

  -- cut, it hands back k containers from number i on, and m bytes of the one after them are held
  pub record Chopped (i k m : ℕ) (c : Cut) (unit held : List ℕ) : Type 0 where
    pub ended : ended_of s c unit held ≡ boxes box i k
    pub rest : drop c.begin unit ≡ take m (box (i + k))

  -- nothing was held
  pub none_held : (i k m from : ℕ) (unit held : List ℕ) → Begun i k m from unit → Chopped i k m (cut_of s 0 from) unit held
  unfolding cut_of next_of ended_of inside_part
  none_held i k m from unit held b = record { ended = b.inside_is; rest = b.rest }

  -- n bytes were held, the first of container i, and the run goes on with it
  module _ (i n from : ℕ) (unit : List ℕ) (l : Line s n from) (some : 0 < n) (low : n + s.step ≤ s.size) (run : drop from unit ≡ run_of (unit_length s - from) n (box i) (box (i + 1))) where
    lacks_long : length (drop n (box i)) ≡ s.size - n
    lacks_long = simp length-drop (omega (arith, full i))

    -- what it lacks stands first in the run
    run_is : drop from unit ≡ drop n (box i) ++ take (unit_length s - (from + (s.size - n))) (box (i + 1))
    unfolding run_of
    run_is =
        run
        ∙ take_past (drop n (box i)) (box (i + 1)) (unit_length s - from) (unit_length s - (from + (s.size - n)))
        (omega (arith, lacks_long, l.ends_within some))

    -- and then the next begins
    pub next_is : drop (from + (s.size - n)) unit ≡ take (unit_length s - (from + (s.size - n))) (box (i + 1) ++ box (i + 1 + 1))
    next_is =
        let room = unit_length s - (from + (s.size - n)) in
        sym (drop-drop (s.size - n) from unit)
        ∙ ap (drop (s.size - n)) run_is
        ∙ drop_at (drop n (box i)) (take room (box (i + 1))) (s.size - n) lacks_long
        ∙ sym (take-append-le room (box (i + 1)) (box (i + 1 + 1)) (omega (arith, full (i + 1), l.behind)))

    -- with the right bytes held, it is completed
    completed_is : (held : List ℕ) → take n held ≡ take n (box i) → take n held ++ take (s.size - n) (drop from unit) ≡ box i
    completed_is held h =
        let room = unit_length s - (from + (s.size - n)) in
        ap (λ (x : List ℕ). take n held ++ x) (ap (take (s.size - n)) run_is ∙ take_at (drop n (box i)) (take room (box (i + 1))) (s.size - n) lacks_long)
        ∙ ap (λ (x : List ℕ). x ++ drop n (box i)) h
        ∙ take-append-drop n (box i)

    some_held : (k m : ℕ) (held : List ℕ) → take n held ≡ take n (box i) → Begun (i + 1) k m (from + (s.size - n)) unit
        → Chopped i (suc k) m (cut_of s n from) unit held
    unfolding cut_of next_of ended_of completed_of inside_part boxes
    some_held k m held h b =
        let ends : ltb 0 n ≡ true = lt-ltb 0 n some in
        let j : i + suc k ≡ i + 1 + k = omega arith in
        record {
          ended =
              simp ends
              (ap (λ (x : List ℕ). x ∷ one_if (inside_of s (from + (s.size - n))) (take s.size (drop (from + (s.size - n)) unit))) (completed_is held h)
              ∙ ap (λ (x : List (List ℕ)). box i ∷ x) b.inside_is);
          rest = simp (ends, j) b.rest;
        }

  -- How many end, the balance of the bytes tells.
  pub chop : (i n from k m : ℕ) (unit held : List ℕ) → Line s n from → n + s.step ≤ s.size → m + s.step ≤ s.size
      → drop from unit ≡ run_of (unit_length s - from) n (box i) (box (i + 1))
      → take n held ≡ take n (box i)
      → Balanced s n from k m
      → Chopped i k m (cut_of s n from) unit held
  unfolding run_of
  chop i zero from zero m unit held l low h run t e = none_held i 0 m from unit held (none_ends i m from unit run (omega arith) (omega (arith, l.fit.some)))
  chop i zero from (suc zero) m unit held l low h run t e = none_held i 1 m from unit held (one_ends i m from unit run (omega arith))
  chop i zero from (suc (suc k)) m unit held l low h run t e = absurd (omega (arith, l.fit.two, l.fit.some, l.behind))
  chop i (suc n) from zero m unit held l low h run t e = absurd (omega (arith, l.fit.some, l.ends_within (omega arith)))
  chop i (suc n) from (suc zero) m unit held l low h run t e =
      let next = next_is i (suc n) from unit l (omega arith) low run in
      some_held i (suc n) from unit l (omega arith) low run 0 m held t
      (none_ends (i + 1) m (from + (s.size - suc n)) unit next (omega arith) (omega (arith, l.fit.some)))
  chop i (suc n) from (suc (suc zero)) m unit held l low h run t e =
      let next = next_is i (suc n) from unit l (omega arith) low run in
      some_held i (suc n) from unit l (omega arith) low run 1 m held t (one_ends (i + 1) m (from + (s.size - suc n)) unit next (omega arith))
  chop i (suc n) from (suc (suc (suc k))) m unit held l low h run t e = absurd (omega (arith, l.fit.two, l.fit.some, l.behind))
