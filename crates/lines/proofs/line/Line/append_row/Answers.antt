use Rattle.std.proofs.Common.{◌++◌, length, get_or, sym, ap, ◌∙◌, arith}
use Rattle.std.specs.List.{flat_map, between}
use Rattle.std.proofs.lemmas.List.{nil_from_length}
use Rattle.std.proofs.lemmas.Slice.{first_rest}
use Rattle.groups.proofs.Rising.{blank}
use Rattle.lines.specs.Lines.{text_of, cut}
use Rattle.lines.specs.Texts.{item_text, next_text, row_text}
use Rattle.lines.proofs.Cuts.{behind, unchanged}
use Rattle.lines.proofs.line.Line.append_row.Goals as goal

pub returns-in_default : goal.returns-in_default
returns-in_default c =
    unchanged c.args.self.now
    ∙ ap (λ l. cut (text_of c.args.self.now ++ row_text l)) (sym (nil_from_length c.args.items.now (omega (arith, c.in_default.len_below))))

pub returns-in-len1-up : goal.returns-in-len1-up
returns-in-len1-up c =
    let xs = c.args.items.now in
    behind (text_of c.args.self.now) (item_text (get_or xs 0 blank)) (flat_map next_text (between 1 (length xs) xs)) (text_of c.append_item.new.self) (text_of c.append_next.new.self) c.append_item.ensures c.append_next.ensures
    ∙ ap (λ l. cut (text_of c.args.self.now ++ row_text l)) (sym (first_rest xs blank (omega (arith, c.in-len1-up.len_at_least))))
