-- What the functions inside the import answer. No rule of 02 stands here, and the promise of `importing::import` does not cite it.
use Rattle.std.specs.Prelude.{ℕ, ◌≡◌, ◌<◌, Bool, List, ◌∷◌, length, Result, Ok, Err}
use Rattle.records.specs.Record.{old_kind}
use Rattle.catalogue.specs.Catalogue.{check_of}
use Rattle.records.specs.declared.Refusal as of-records
use Rattle.importing.specs.Import.{cut, lines_of, left_by}
use Rattle.sheet_refusals.specs.declared.Refusal.{Refusal}
use Rattle.sheet_refusals.specs.declared.Refusal.TheVariants.{Catalogue}

-- the first line of a text, whether an LF ends it, and what stands behind it
pub record Parts (s line : List ℕ) (ended : Bool) (rest : List ℕ) : Type 0 where
  pub are : lines_of s ≡ cut line ended ∷ lines_of rest
  pub less : length rest < length s

-- the answer of the catalogue's check, as the import's
unfoldable pub checked_as : Result ℕ of-records.Refusal → Result ℕ Refusal
checked_as (Ok n) = Ok n
checked_as (Err x) = Err (Catalogue x)

-- what is answered and left of the result of lines with which nothing is wrong
pub record Made (result before after : List ℕ) (r : Result ℕ Refusal) : Type 0 where
  pub answer_is : r ≡ checked_as (check_of old_kind result)
  pub now_is : after ≡ left_by r result before
