-- What a `shape::Shape` has of a shape: its four numbers, and with them the proof that they fit. AU-4 as the code has it.
use Rattle.std.specs.Prelude.{refl}
use Rattle.std.proofs.Common.{lit≤, lit<}
use Rattle.shape.specs.Shape.{Shape, Fit, au4}
use Rattle.shape.specs.declared.Shape as code

abbrev pub numbers : code.Shape → Shape
numbers s = record { step = s.step; size = s.size; top = s.top; columns = s.columns }

pub au4_fits : Fit au4
au4_fits = record { some = lit≤ tt; fills = refl; nine = refl; two = lit≤ tt; ten = lit< tt; low = lit< tt }

abbrev pub au4_shape : code.Shape
au4_shape = record { step = au4.step; size = au4.size; top = au4.top; columns = au4.columns; fits = au4_fits }
