-- `word::reading` meets its contract. Assumes nothing.
use native.Mathlib.Omega.{arith}
use Rattle.word.proofs.Answers.{reads_none, ss_fits, kind_ss_fits, reading_fits, reads_two}
use Rattle.word.proofs.reading.Goals as goal

pub returns-in_default : goal.returns-in_default
returns-in_default c = search (arith, reads_none)

pub returns-in_default-2 : goal.returns-in_default-2
returns-in_default-2 c = search (arith, reads_none)

pub overflow_mul-result-2 : goal.overflow_mul-result-2
overflow_mul-result-2 c = search ss_fits

pub overflow_add-result : goal.overflow_add-result
overflow_add-result c = search kind_ss_fits

pub overflow_add-result-2 : goal.overflow_add-result-2
overflow_add-result-2 c = search reading_fits

pub returns : goal.returns
returns c = search (arith, reads_two)
