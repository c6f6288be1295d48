use Rattle.std.proofs.Common.{[], ◌∷◌}
use Rattle.lines.specs.Lines.{text_of}
use Rattle.lines.specs.Texts.{row_text}
use Rattle.lines.proofs.Cuts.{behind}
use Rattle.lines.proofs.line.Line.append_items.Goals as goal

pub returns : goal.returns
returns c =
    let items = c.args.items.now in
    let row = behind (text_of c.args.self.now) (40 ∷ []) (row_text items) (text_of c.push.new.self) (text_of c.append_row.new.self) c.push.ensures c.append_row.ensures in
    behind (text_of c.args.self.now) (40 ∷ row_text items) (41 ∷ []) (text_of c.append_row.new.self) (text_of c.push-2.new.self) row c.push-2.ensures
