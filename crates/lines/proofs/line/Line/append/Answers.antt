use Rattle.std.proofs.Common.{[], ◌∷◌, ◌++◌, get_or, take, sym, ap, ◌∙◌}
use Rattle.std.proofs.lemmas.List.{take_more}
use Rattle.lines.specs.Lines.{text_of, cut}
use Rattle.lines.proofs.Cuts.{behind, unchanged}
use Rattle.lines.proofs.line.Line.append.Goals as goal

pub loop-byte-init : goal.loop-byte-init
loop-byte-init c = unchanged c.args.self.now

pub loop-byte-preserved : goal.loop-byte-preserved
loop-byte-preserved c =
    let i = c.loop-byte.byte-index in
    let text = c.args.text.now in
    behind (text_of c.args.self.now) (take i text) (get_or text i 0 ∷ []) (text_of c.loop-byte.self) (text_of c.push.new.self) c.loop-byte.invariant c.push.ensures
    ∙ ap (λ l. cut (text_of c.args.self.now ++ l)) (sym (take_more text i 0 c.loop-byte-test.true))
