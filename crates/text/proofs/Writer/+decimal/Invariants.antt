-- `text::Writer::decimal` ends: the number falls to its tenth.
use Rattle.text.proofs.Writer.+decimal.Given as goal

abbrev pub decreases-decimal : goal.decreases-decimal
decreases-decimal l = l.n
