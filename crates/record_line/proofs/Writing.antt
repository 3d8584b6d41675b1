-- What the pieces of a record's line come to, in any form.
use mathlib.Core.Path.{◌≡◌, ◌∙◌}
use mathlib.Core.Bool.{true, false}
use mathlib.Core.List.{List, [], ◌∷◌, ◌++◌, append_assoc}
use Prim.Native.Nat.{ℕ, ◌+◌, ◌*◌, ◌<◌}
use native.Mathlib.Omega.{arith}
use lib.ListN.{length}
use Rattle.text.specs.Text.{decimal_of, hex_of}
use Rattle.text.specs.Inner.{Short}
use Rattle.text.specs.declared.Writer.{Writer}
use Rattle.text.specs.InnerWriting.{HasRoom, Wrote, WroteWithin}
use Rattle.text.proofs.Digits.{length_decimal}
use Rattle.text.proofs.Within.{wider, within, within_number, within_then}
use Rattle.quotes.specs.Quotes.{doubled}
use Rattle.records.specs.Record.{circuit_in, label_in, trace_in, flags_in}
use Rattle.record_line.specs.RecordLine.{number_and_label, characters_of, trace_and_flags, line_of}
use Rattle.record_line.specs.Inner.{characters_most, line_most}
use Rattle.record_line.specs.declared.Form.{Form}

-- a circuit number, of two bytes
pub circuit_short : (r : List ℕ) (m n : ℕ) → n ≡ m → m ≡ circuit_in r → m < 65536 → Short 5 (circuit_in r) n
circuit_short r m n e f h = record { is = e ∙ f; short = length_decimal 5 n (omega arith) (omega arith) }

-- ---- the characters, doubled or not

module _ (form : Form) (t : List ℕ) (u : Writer) (l : length t ≡ 15) (h : HasRoom (characters_most form) u) where
  pub doubled_room : form.doubles ≡ true → HasRoom (2 * length t) u
  unfolding characters_most
  doubled_room e = omega (arith, rw e at h)

  pub doubled_within : (w : Writer) → form.doubles ≡ true → WroteWithin (2 * length t) (doubled t) u w → WroteWithin (characters_most form) (characters_of form t) u w
  unfolding characters_most characters_of
  doubled_within w e x = rw e (wider 30 (omega arith) x)

  pub plain_room : form.doubles ≡ false → HasRoom (length t) u
  unfolding characters_most
  plain_room e = omega (arith, rw e at h)

  pub plain_within : (w : Writer) → form.doubles ≡ false → Wrote t u w → WroteWithin (characters_most form) (characters_of form t) u w
  unfolding characters_most characters_of
  plain_within w e x = rw e (within 15 x (omega arith))

-- ---- a record's line

module _ (form : Form) (r : List ℕ) (n label : ℕ) (s : Short 5 (circuit_in r) n) (is-label : label ≡ label_in r) (t u v w : Writer) (h : HasRoom 8 t) where
  pub number_and_label_lem : Wrote (decimal_of n) t u → Wrote (form.between ∷ []) u v → Wrote (hex_of label) v w → WroteWithin 8 (number_and_label form r) t w
  unfolding number_and_label
  number_and_label_lem x y z =
      let xy = within_then (within_number s x) (within 1 y (omega arith)) (omega arith) in
      rw (← is-label) (rw append_assoc at (within_then xy (within 2 z (omega arith)) (omega arith)))

module _ (form : Form) (r c : List ℕ) (c-is : c ≡ trace_in r) (n : ℕ) (s : Short 3 (flags_in r) n) (p t u v x w : Writer) (h : HasRoom (characters_most form + 6) p) where
  pub trace_and_flags_lem : Wrote (form.opening ∷ []) p t → WroteWithin (characters_most form) (characters_of form c) t u → Wrote (form.closing ∷ []) u v
      → Wrote (form.between ∷ []) v x → Wrote (decimal_of n) x w → WroteWithin (characters_most form + 6) (trace_and_flags form r) p w
  unfolding trace_and_flags
  trace_and_flags_lem a b d e f =
      let ab = within_then (within 1 a (omega arith)) b (omega arith) in
      let abd = within_then ab (within 1 d (omega arith)) (omega arith) in
      let abde = within_then abd (within 1 e (omega arith)) (omega arith) in
      let all = simp append_assoc at (within_then abde (within_number s f) (omega arith)) in
      rw (← c-is) (wider (characters_most form + 6) (omega arith) all)

module _ (form : Form) (r : List ℕ) (t u v x w : Writer) (h : HasRoom (line_most form) t) where
  pub line_within : WroteWithin 8 (number_and_label form r) t u → Wrote (form.between ∷ []) u v → WroteWithin (characters_most form + 6) (trace_and_flags form r) v x → Wrote (0x0a ∷ []) x w
      → WroteWithin (line_most form) (line_of form r ++ (0x0a ∷ [])) t w
  unfolding line_of
  line_within a b d e =
      let ab = within_then a (within 1 b (omega arith)) (omega arith) in
      let abd = within_then ab d (omega arith) in
      let all = within_then abd (within 1 e (omega arith)) (omega arith) in
      wider (line_most form) (omega arith) (rw (append_assoc (number_and_label form r) (form.between ∷ []) (trace_and_flags form r)) at all)
