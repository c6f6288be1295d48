use Rattle.std.proofs.Common.{◌≡◌, true, get_or, sym, ap, ◌∙◌, subst}
use Rattle.std.proofs.lemmas.List.{drop_all}
use Rattle.groups.specs.Items.{rising}
use Rattle.groups.proofs.Rising.{blank}
use Rattle.frames.specs.Fitted.{fitted, LowestMissing}
use Rattle.fixed.proofs.Few.{few_held}
use Rattle.frames.proofs.Placing.{Placing, placing_more, placing_all, lowest_here}
use Rattle.frames.proofs.plates.Plates.place_each.Goals as goal

pub returns-in-None : goal.returns-in-None
returns-in-None c =
    let f = c.args.self.now in
    let xs = c.items-item-items.result.now in
    let rises : rising 0 xs ≡ true = ap (rising 0) c.items-item-items.ensures ∙ c.args.group.now.rises in
    let p = (get_or xs c.loop-item.item-index blank).plate in
    (p, subst (λ is. LowestMissing (fitted f) is p) c.items-item-items.ensures (lowest_here (fitted f) xs c.loop-item.item-index c.loop-item.placed rises c.loop-item-test.true (sym c.in-None.ensures) c.loop-item.invariant), c.at.ensures)

pub loop-item-preserved : goal.loop-item-preserved
loop-item-preserved c =
    let f = c.args.self.now in
    let xs = c.items-item-items.result.now in
    let rises : rising 0 xs ≡ true = ap (rising 0) c.items-item-items.ensures ∙ c.args.group.now.rises in
    placing_more (fitted f) xs c.loop-item.item-index c.loop-item.placed c.with-placed.result c.in-Some.place f.rises (few_held f.plates) rises
    c.loop-item-test.true (sym c.in-Some.ensures) c.with-placed.ensures c.loop-item.invariant

pub returns : goal.returns
returns c =
    let ps = fitted c.args.self.now in
    let xs = c.items-item-items.result.now in
    let rises : rising 0 xs ≡ true = ap (rising 0) c.items-item-items.ensures ∙ c.args.group.now.rises in
    let all = placing_all ps xs c.loop-item.placed c.args.self.now.rises rises (subst (λ rest. Placing ps xs rest c.loop-item.placed) (drop_all c.loop-item.item-index xs c.loop-item-test.false) c.loop-item.invariant) in
    (all.0 ∙ c.items-item-items.ensures, all.1)
