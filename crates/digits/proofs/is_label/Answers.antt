-- `digits::is_label` meets its contract. Assumes nothing.
use native.Mathlib.Omega.{arith}
use Rattle.digits.proofs.Laws.{label_two, label_not}
use Rattle.digits.proofs.is_label.Goals as goal

pub returns-then-is_ascii_hexdigit : goal.returns-then-is_ascii_hexdigit
returns-then-is_ascii_hexdigit c =
    label_two c.args.s.now (omega arith) c.is_ascii_hexdigit.result c.is_ascii_hexdigit.ensures.value _ c.if-is_ascii_hexdigit.true c.is_ascii_hexdigit-then-is_ascii_hexdigit.ensures.value

pub returns-else-is_ascii_hexdigit : goal.returns-else-is_ascii_hexdigit
returns-else-is_ascii_hexdigit c = label_not c.args.s.now (omega arith) c.is_ascii_hexdigit.result c.is_ascii_hexdigit.ensures.value c.if-is_ascii_hexdigit.false
