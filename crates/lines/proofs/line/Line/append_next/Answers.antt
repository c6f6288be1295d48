use Rattle.std.proofs.Common.{[], ◌∷◌, ◌++◌, get_or, take, sym, ap, ◌∙◌, append_assoc}
use Rattle.std.specs.List.{flat_map}
use Rattle.std.proofs.lemmas.List.{take_more, flat_map_more}
use Rattle.groups.proofs.Rising.{blank}
use Rattle.lines.specs.Lines.{text_of, cut}
use Rattle.lines.specs.Texts.{item_text, next_text}
use Rattle.lines.proofs.Cuts.{behind, unchanged}
use Rattle.lines.proofs.line.Line.append_next.Goals as goal

pub loop-item-init : goal.loop-item-init
loop-item-init c = unchanged c.args.self.now

pub loop-item-preserved : goal.loop-item-preserved
loop-item-preserved c =
    let xs = take c.loop-item.item-index c.args.items.now in
    let x = get_or c.args.items.now c.loop-item.item-index blank in
    let spaced = behind (text_of c.args.self.now) (flat_map next_text xs) (32 ∷ []) (text_of c.loop-item.self) (text_of c.push.new.self) c.loop-item.invariant c.push.ensures in
    behind (text_of c.args.self.now) (flat_map next_text xs ++ (32 ∷ [])) (item_text x) (text_of c.push.new.self) (text_of c.append_item.new.self) spaced c.append_item.ensures
    ∙ ap (λ l. cut (text_of c.args.self.now ++ l)) (append_assoc (flat_map next_text xs) (32 ∷ []) (item_text x) ∙ flat_map_more next_text [] xs x ∙ ap (flat_map next_text) (sym (take_more c.args.items.now c.loop-item.item-index blank c.loop-item-test.true)))
