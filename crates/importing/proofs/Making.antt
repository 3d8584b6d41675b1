-- The loop that writes the records, and the ends of the import.
use mathlib.Core.Path.{◌≡◌, refl, sym, ap, ◌∙◌}
use mathlib.Core.Bool.{Bool}
use mathlib.Core.List.{List, [], ◌∷◌, ◌++◌}
use Prim.Native.Nat.{ℕ, ◌+◌, ◌-◌, ◌*◌, ◌<◌, ◌≤◌}
use native.Mathlib.Omega.{arith}
use lib.ListN.{length, take, drop, length-append, length-drop}
use lib.Seq.{take_all, take-add, drop-drop, take_at, drop_at, length-take-le}
use Rattle.text.specs.declared.Writer.{Writer}
use Rattle.text.specs.InnerWriting.{HasRoom, Wrote}
use Rattle.text.proofs.Pieces.{wrote_none, wrote_then}
use Rattle.std.specs.Prelude.{Ok}
use Rattle.sheet_line.specs.Line.{front_of, characters, record_of}
use Rattle.sheet_line.specs.Inner.{Sound}
use Rattle.sheet_line.proofs.Writing.{padded_length}
use Rattle.importing.specs.Import.{Cut, cut, lines_of, records_of, faults_from, first_of, result_of}
use Rattle.importing.specs.Inner.{Parts}
use Rattle.importing.proofs.Faulty.{Sounds, none, more, sounds_of}

-- ---- lengths

pub record_length : (s : List ℕ) → Sound s → length (record_of s) ≡ 21
unfolding record_of front_of
record_length s w = simp length-append (omega (arith, padded_length (characters s) w.short))

pub records_length : (ls : List Cut) → Sounds ls → length (records_of ls) ≡ 21 * length ls
unfolding records_of
records_length ls none = refl
records_length ks (more {l = l} {ls = ls} w ws) = simp length-append (omega (arith, record_length l.bytes w, records_length ls ws))

-- ---- the loop

-- what is written is the beginning of the result, and the lines of the rest say what is left of it
pub record Half (s rest : List ℕ) (u w : Writer) : Type 0 where
  pub left : Sounds (lines_of rest)
  pub from : u.at ≤ w.at
  pub wrote : Wrote (take (w.at - u.at) (result_of s)) u w
  pub says : drop (w.at - u.at) (result_of s) ≡ records_of (lines_of rest)

pub half_start : (s : List ℕ) (u : Writer) → first_of (faults_from 0 (lines_of s)) ≡ Ok tt → Half s s u u
unfolding result_of
half_start s u ok =
    let q : u.at - u.at ≡ 0 = omega arith in
    record { left = sounds_of s ok; from = omega arith; wrote = rw q (wrote_none u); says = rw q refl }

pub half_end : (s rest : List ℕ) (u w : Writer) → lines_of rest ≡ [] → Half s rest u w → Wrote (result_of s) u w
unfolding records_of
half_end s rest u w h f =
    let n : drop (w.at - u.at) (result_of s) ≡ [] = f.says ∙ (rw h) in
    rw (take_all (w.at - u.at) (result_of s) (omega (arith, ap length n, length-drop (w.at - u.at) (result_of s)))) at f.wrote

first_sound : (l : Cut) (ls : List Cut) → Sounds (l ∷ ls) → Sound l.bytes
first_sound l ls (more w ws) = w

rest_sounds : (l : Cut) (ls : List Cut) → Sounds (l ∷ ls) → Sounds ls
rest_sounds l ls (more w ws) = ws

-- r stands at e, and x behind it
module _ (x r y : List ℕ) (e : ℕ) (q : drop e x ≡ r ++ y) where
  next_take : take (e + length r) x ≡ take e x ++ r
  next_take = take-add e (length r) x ∙ ap (λ (z : List ℕ). take e x ++ z) (ap (take (length r)) q ∙ take_at r y (length r) refl)

  next_drop : drop (e + length r) x ≡ y
  next_drop = sym (drop-drop (length r) e x) ∙ ap (drop (length r)) q ∙ drop_at r y (length r) refl

  next_long : 0 < length r → e + length r ≤ length x
  next_long h = omega (arith, ap length q, length-append r y, length-drop e x)

module _ (s rest l further : List ℕ) (ended : Bool) (u v : Writer) (all : first_of (faults_from 0 (lines_of s)) ≡ Ok tt) (room : HasRoom (21 * length (lines_of s)) u) (p : Parts rest l ended further) (f : Half s rest u v) where
  opened : Sounds (cut l ended ∷ lines_of further)
  opened = rw p.are at f.left

  pub line_sound : Sound l
  line_sound = first_sound (cut l ended) (lines_of further) opened

  stands : drop (v.at - u.at) (result_of s) ≡ record_of l ++ records_of (lines_of further)
  unfolding records_of
  stands = f.says ∙ rw p.are

  ends : v.at - u.at + length (record_of l) ≤ length (result_of s)
  ends = next_long (result_of s) (record_of l) (records_of (lines_of further)) (v.at - u.at) stands (omega (arith, record_length l line_sound))

  pub record_room : HasRoom 21 v
  unfolding result_of
  record_room = omega (arith, ends, record_length l line_sound, records_length (lines_of s) (sounds_of s all), f.from, f.wrote.keeps)

  pub half_turn : (w : Writer) → Wrote (record_of l) v w → Half s further u w
  half_turn w x =
      let q : w.at - u.at ≡ v.at - u.at + length (record_of l) = omega (arith, x.next_is, f.from) in
      record {
        left = rest_sounds (cut l ended) (lines_of further) opened;
        from = omega (arith, x.next_is, f.from);
        wrote =
            let t = length-take-le (v.at - u.at) (result_of s) (omega (arith, ends)) in
            rw (q, next_take (result_of s) (record_of l) (records_of (lines_of further)) (v.at - u.at) stands)
            (wrote_then (take (v.at - u.at) (result_of s)) (record_of l) u v w (omega (arith, record_room, f.wrote.keeps, f.from)) f.wrote x);
        says = rw q (next_drop (result_of s) (record_of l) (records_of (lines_of further)) (v.at - u.at) stands);
      }
