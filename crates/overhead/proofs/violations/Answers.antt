-- `overhead::violations` meets its contract: a byte has at most eight ones. Assumes nothing.
use native.Mathlib.Omega.{arith}
use lib.Count.{ones-le}
use Rattle.overhead.specs.Violations.{violations_of}
use borrow.Author.Rules.{rules}
use Rattle.overhead.proofs.violations.Goals as goal

pub overflow_cast-result : goal.overflow_cast-result
overflow_cast-result c = omega (arith, ones-le 8 c.args.violated c.ranges.violated.fits)

pub returns : goal.returns
unfolding violations_of
returns c = search rules
