-- What the pieces of a refusal's line come to.
use mathlib.Core.Path.{◌≡◌, refl, sym}
use mathlib.Core.List.{List, [], ◌∷◌, ◌++◌, append_assoc, append-nil}
use Prim.Native.Nat.{ℕ, ◌<◌, ◌≤◌}
use native.Mathlib.Omega.{arith}
use lib.ListN.{length}
use Rattle.text.specs.Text.{decimal_of}
use Rattle.text.specs.Inner.{Short, Within}
use Rattle.text.specs.declared.Writer.{Writer}
use Rattle.text.specs.InnerWriting.{HasRoom, Wrote, WroteWithin}
use Rattle.text.proofs.Digits.{length_most}
use Rattle.text.proofs.Pieces.{wrote_none}
use Rattle.text.proofs.Within.{begun_within, byte_short, wider, within, within_number, within_then}
use Rattle.records.specs.declared.Places.{Places}
use Rattle.records.specs.declared.Places.TheVariants.{Nowhere, One, Two}
use Rattle.records.specs.Refusals.{places_in}
use Rattle.refusal_line.specs.RefusalLine.{blank_before, refusal_line}

-- ---- a place

module _ (u v : Writer) (p : ℕ) (h : HasRoom 21 u) (x : Wrote (0x20 ∷ []) u v) where
  pub place_fits : HasRoom (length (decimal_of p)) v
  place_fits = omega (arith, length_most p, x.next_is, x.keeps)

  pub place_within : (w : Writer) → Wrote (decimal_of p) v w → WroteWithin 21 (0x20 ∷ decimal_of p) u w
  place_within w y = within_then (within 1 x (omega arith)) (within 20 y (length_most p)) (omega arith)

-- ---- no place, one, and two

module _ (u : Writer) (p : Places) where
  pub places_none : p ≡ Nowhere → WroteWithin 42 (blank_before (places_in p)) u u
  unfolding blank_before
  places_none e = rw e (within 42 (wrote_none u) (omega arith))

  pub places_one : (first : ℕ) (w : Writer) → p ≡ One first → WroteWithin 21 (0x20 ∷ decimal_of first) u w → WroteWithin 42 (blank_before (places_in p)) u w
  unfolding blank_before
  places_one first w e x = rw (e, append-nil) (wider 42 (omega arith) x)

  pub places_two : (first second : ℕ) (v w : Writer) → p ≡ Two first second → HasRoom 42 u
      → WroteWithin 21 (0x20 ∷ decimal_of first) u v → WroteWithin 21 (0x20 ∷ decimal_of second) v w → WroteWithin 42 (blank_before (places_in p)) u w
  unfolding blank_before
  places_two first second v w e h x y = rw (e, append-nil) (within_then x y (omega arith))

-- ---- the line, y being the number as it was read

module _ (b : List ℕ) (number y : ℕ) (p : Places) (t u v : Writer) (e : y ≡ number) (f : number < 256) (h : 46 ≤ length b) (held : t.out.now ≡ b) (start : t.at ≡ 0) where
  begun : HasRoom 46 t
  begun = let l : 46 ≤ length t.out.now = rw held h in omega (arith, start)

  short : Short 3 number y
  short = byte_short number number y e refl (rw e f)

  pub number_fits : HasRoom (length (decimal_of y)) t
  number_fits = omega (arith, short.short, begun)

  module _ (x : Wrote (decimal_of y) t u) where
    numbered : WroteWithin 3 (decimal_of number) t u
    numbered = within_number short x

    pub places_fit : HasRoom 42 u
    places_fit = omega (arith, begun, numbered.short, numbered.keeps)

    module _ (z : WroteWithin 42 (blank_before (places_in p)) u v) where
      placed : WroteWithin 45 (decimal_of number ++ blank_before (places_in p)) t v
      placed = within_then numbered z (omega (arith, begun))

      pub end_fits : HasRoom 1 v
      end_fits = omega (arith, begun, placed.short, placed.keeps)

      -- a is what the lent buffer holds where the writer still has it
      pub refusal_written : (a : List ℕ) (w : Writer) → (t.out.ghost_name ≡ w.out.ghost_name → a ≡ w.out.now) → Wrote (0x0a ∷ []) v w → Within 46 0 (refusal_line number (places_in p)) b a w.at
      unfolding refusal_line
      refusal_written a w held_by y =
          let whole : WroteWithin 46 (decimal_of number ++ (blank_before (places_in p) ++ (0x0a ∷ []))) t w = rw append_assoc at (within_then placed (within 1 y (omega arith)) (omega (arith, begun))) in
          rw (held_by (sym whole.same)) (begun_within 46 (decimal_of number ++ (blank_before (places_in p) ++ (0x0a ∷ []))) b t w held start whole)
