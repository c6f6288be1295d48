-- What a line holds. Assumes nothing.
use Rattle.std.specs.Prelude.{ℕ, List, take}
use Rattle.fixed.specs.Rows.{held}
use Rattle.lines.specs.declared.line.Line.{Line}

-- the text of a line
abbrev pub text_of : Line → List ℕ
text_of l = held l.bytes

-- a text as far as a line holds it: 320 bytes
unfoldable pub cut : List ℕ → List ℕ
cut text = take 320 text
