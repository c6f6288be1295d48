use Rattle.std.proofs.Common.{[], ◌∷◌, ◌++◌, decimal, ap, ◌∙◌}
use Rattle.groups.specs.Items.{mark_of}
use Rattle.lines.specs.Lines.{text_of, cut}
use Rattle.lines.proofs.Cuts.{behind}
use Rattle.lines.proofs.line.Line.append_item.Goals as goal

pub returns : goal.returns
returns c =
    behind (text_of c.args.self.now) (decimal c.args.item.plate) (mark_of c.args.item.sign ∷ []) (text_of c.append_digits.new.self) (text_of c.push.new.self) (c.append_digits.ensures.after ∙ ap (λ n. cut (text_of c.args.self.now ++ decimal n)) c.from.ensures)
    (c.push.ensures ∙ ap (λ b. cut (text_of c.append_digits.new.self ++ (b ∷ []))) c.from-2.ensures)
