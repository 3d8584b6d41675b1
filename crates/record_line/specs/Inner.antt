-- How long a record's line can be, whatever bytes the record holds. No rule of 01 or 02 stands here, and no promise of a program's text cites it.
use Rattle.std.specs.Prelude.{ℕ, ◌+◌, cond}
use Rattle.record_line.specs.declared.Form.{Form}

-- 15 characters, each of which may be a quote
unfoldable pub characters_most : Form → ℕ
characters_most form = cond form.doubles 30 15

-- with a number of five digits, a label of two, flags of three, a byte before and behind the trace, one between each two fields, and the LF: 31, or 46
abbrev pub line_most : Form → ℕ
line_most form = characters_most form + 16
