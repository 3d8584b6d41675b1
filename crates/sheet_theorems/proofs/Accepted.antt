-- What an accepted text is: at most 512 lines, each ended by an LF and written as ask 1 of 02 says; so an unquoted trace is never accepted. And what it says is a good catalogue.
use mathlib.Core.Path.{◌≡◌}
use mathlib.Core.Bool.{true}
use mathlib.Core.List.{List, [], ◌∷◌}
use Prim.Native.Nat.{ℕ, ◌+◌, ◌≤◌}
use lib.ListN.{length}
use Rattle.refusals.proofs.Joined.{joined_none, rows_none}
use Rattle.records.specs.Record.{old_kind}
use Rattle.catalogue.specs.Catalogue.{check_of}
use Rattle.std.specs.Prelude.{Ok}
use Rattle.sheet_line.specs.Grammar.{Written}
use Rattle.sheet_line.specs.Line.{number_field, label_field, quoted, characters, flags_field, line_faults}
use Rattle.sheet_line.specs.declared.LineFault.{LineFault}
use Rattle.sheet_line.proofs.Ways.{sound, sound_ended}
use Rattle.importing.specs.Import.{Cut, lines_of, most_lines, faults_from, result_of, import_of}
use Rattle.sheet_refusals.specs.declared.Refusal.TheVariants.{Line}
use Rattle.importing.proofs.Answers.{good_fine}
use Rattle.sheet_theorems.proofs.Grammar.{accepted_written}

-- a line that is ended and written so, whatever its fields are
pub record Proper (l : Cut) : Type 0 where
  pub ended_is : l.ended ≡ true
  pub quoted_is : quoted l.bytes ≡ true
  pub written : Written (number_field l.bytes) (label_field l.bytes) (characters l.bytes) (flags_field l.bytes) l.bytes

pub data All : List Cut → Type 0 where
  none : All []
  more : {l : Cut} {ls : List Cut} → Proper l → All ls → All (l ∷ ls)

all_proper : (k : ℕ) (ls : List Cut) → faults_from k ls ≡ [] → All ls
unfolding faults_from
all_proper k [] e = none
all_proper k (l ∷ ls) e =
    let p = joined_none _ (faults_from (k + 1) ls) e in
    let q = rows_none ((k + 1) ∷ []) (λ (x : LineFault). Line x (k + 1)) (line_faults l.ended l.bytes) p.0 in
    more
    (record {
      ended_is = sound_ended l.ended l.bytes q;
      quoted_is = (sound l.ended l.bytes q).quoted_is;
      written = accepted_written l.ended l.bytes q;
    })
    (all_proper (k + 1) ls p.1)

pub record Accepted (s : List ℕ) (n : ℕ) : Type 0 where
  pub few : length (lines_of s) ≤ most_lines
  pub proper : All (lines_of s)
  pub good : check_of old_kind (result_of s) ≡ Ok n

pub accepted : (s : List ℕ) (n : ℕ) → import_of s ≡ Ok n → Accepted s n
accepted s n e =
    let f = good_fine s n e in
    record { few = f.few_lines; proper = all_proper 0 (lines_of s) f.lines_fine; good = f.catalogue_good }
