use Rattle.std.proofs.Common.{◌≡◌, ◌++◌, take}
use Rattle.std.specs.List.{flat_map}
use Rattle.lines.specs.Lines.{text_of, cut}
use Rattle.lines.specs.Texts.{next_text}
use Rattle.lines.proofs.line.Line.append_next.Given as goal

abbrev pub invariant-loop-item : goal.invariant-loop-item
invariant-loop-item l = text_of l.self ≡ cut (text_of l.initial.self ++ flat_map next_text (take l.item-index l.items))
