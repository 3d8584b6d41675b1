-- The loop over the records: its start, a turn and its end.
use mathlib.Core.Path.{◌≡◌}
use mathlib.Core.List.{List, [], ◌∷◌, ◌++◌, append_assoc, append-nil}
use Prim.Native.Nat.{ℕ, zero, suc, ◌+◌, ◌*◌, ◌<◌, ◌≤◌}
use native.Mathlib.Nat.{add-zero, zero-add, mul-le-mul_left}
use native.Mathlib.Numerals.{add-one}
use native.Mathlib.Omega.{arith}
use Rattle.text.specs.declared.Writer.{Writer}
use Rattle.text.specs.InnerWriting.{HasRoom, WroteWithin}
use Rattle.text.proofs.Pieces.{wrote_none}
use Rattle.text.proofs.Within.{within, within_then}
use Rattle.records.specs.Record.{Kind, record_at}
use Rattle.record_line.specs.RecordLine.{line_of, lines_from}
use Rattle.record_line.specs.Inner.{line_most}
use Rattle.record_line.specs.declared.Form.{Form}

module _ (form : Form) (kind : Kind) (s : List ℕ) where
  -- one record more, at the end
  lines_snoc : (k n : ℕ) → lines_from form kind s k (suc n) ≡ lines_from form kind s k n ++ (line_of form (record_at kind s (k + n)) ++ (0x0a ∷ []))
  unfolding lines_from
  lines_snoc k zero = rw add-zero (append-nil (line_of form (record_at kind s k) ++ (0x0a ∷ [])))
  lines_snoc k (suc n) =
      let e : k + 1 + n ≡ k + suc n = omega arith in
      rw (append_assoc (line_of form (record_at kind s k) ++ (0x0a ∷ [])) (lines_from form kind s (k + 1) n) (line_of form (record_at kind s (k + suc n)) ++ (0x0a ∷ [])), ← e, ← (lines_snoc (k + 1) n))

  pub lines_none : (u : Writer) → WroteWithin (line_most form * 0) (lines_from form kind s 0 0) u u
  unfolding lines_from
  lines_none u = within (line_most form * 0) (wrote_none u) (omega arith)

  -- the next line is within the room for all
  pub line_room : (u v : Writer) (n k : ℕ) → k < n → HasRoom (line_most form * n) u → WroteWithin (line_most form * k) (lines_from form kind s 0 k) u v → HasRoom (line_most form) v
  line_room u v n k l h x =
      let p : line_most form * (k + 1) ≤ line_most form * n = mul-le-mul_left (line_most form) (omega arith) in
      omega (arith, x.short, x.keeps)

  pub lines_turn : (r : List ℕ) (u v w : Writer) (n k : ℕ) → k < n → HasRoom (line_most form * n) u → r ≡ record_at kind s k
      → WroteWithin (line_most form * k) (lines_from form kind s 0 k) u v → WroteWithin (line_most form) (line_of form r ++ (0x0a ∷ [])) v w
      → WroteWithin (line_most form * (k + 1)) (lines_from form kind s 0 (k + 1)) u w
  lines_turn r u v w n k l h is-r x y =
      let p : line_most form * (k + 1) ≤ line_most form * n = mul-le-mul_left (line_most form) (omega arith) in
      let q : line_most form * (k + 1) ≡ line_most form * k + line_most form = omega arith in
      rw (q, add-one, lines_snoc 0 k, zero-add, ← is-r) (within_then x y (omega arith))

  pub lines_end : (u w : Writer) (n k : ℕ) → k ≤ n → n ≤ k → WroteWithin (line_most form * k) (lines_from form kind s 0 k) u w → WroteWithin (line_most form * n) (lines_from form kind s 0 n) u w
  lines_end u w n k h l x = let q : n ≡ k = omega arith in rw q x
