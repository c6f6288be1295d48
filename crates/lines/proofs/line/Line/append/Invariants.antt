use Rattle.std.proofs.Common.{◌≡◌, ◌++◌, take}
use Rattle.lines.specs.Lines.{text_of, cut}
use Rattle.lines.proofs.line.Line.append.Given as goal

abbrev pub invariant-loop-byte : goal.invariant-loop-byte
invariant-loop-byte l = text_of l.self ≡ cut (text_of l.initial.self ++ take l.byte-index l.text)
