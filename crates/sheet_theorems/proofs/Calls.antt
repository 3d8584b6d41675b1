-- What the promises of the two calls come to together: a good catalogue that one call writes as text the other reads back, into any buffer, byte for byte.
use mathlib.Core.Path.{◌≡◌, refl, ap, ◌∙◌}
use mathlib.Core.List.{List}
use Prim.Native.Nat.{ℕ}
use lib.ListN.{length, take, drop}
use lib.Seq.{take_at}
use Rattle.copier.specs.Put.{put}
use Rattle.records.specs.Record.{old_kind}
use Rattle.catalogue.specs.Catalogue.{check_of}
use Rattle.std.specs.Prelude.{Result, Ok}
use Rattle.records.specs.declared.Refusal as of-records
use Rattle.sheet_refusals.specs.declared.Refusal.{Refusal}
use Rattle.exporting.specs.Export.{export_of, export_answer, Exports}
use Rattle.importing.specs.Import.{left_by, Imports}
use Rattle.importing.proofs.Answers.{put_start}
use Rattle.sheet_theorems.proofs.Good.{Bytes}
use Rattle.sheet_theorems.proofs.Text.{round_trip}

-- the text that export left in its buffer t, of the length that it answered
module _ (s b t : List ℕ) (n : ℕ) (bytes : Bytes s) (good : check_of old_kind s ≡ Ok n) (r : Result ℕ of-records.Refusal) (d : Exports s b t r) where
  pub text_length : r ≡ Ok (length (export_of s))
  unfolding export_answer
  text_length = d.answer_is ∙ rw good

  text_there : take (length (export_of s)) t ≡ export_of s
  text_there = ap (take (length (export_of s))) (d.now_is ∙ put_start (export_of s) b) ∙ take_at (export_of s) (drop (length (export_of s)) b) (length (export_of s)) refl

  -- is imported into a buffer c as the same catalogue
  pub back : (c a : List ℕ) (q : Result ℕ Refusal) → Imports (take (length (export_of s)) t) c a q → (q ≡ Ok n) × (a ≡ put 0 s c)
  unfolding left_by
  back c a q e =
      let w = round_trip s n bytes good in
      (e.answer_is ∙ rw text_there w.answer_is, e.now_is ∙ rw (text_there, w.answer_is, w.bytes_are))
