-- What is read of a pointer word, opened: `unfolding opened` where it is to be computed. Assumes nothing.
use Prim.{Unit, tt}
use Rattle.word.specs.Word.{number_of, kind_of, ss_of, value_of, reading_of, of_kind, good, inverted}

unfoldable pub opened : Unit {0}
unfolding number_of kind_of ss_of value_of reading_of of_kind good inverted
opened = tt
