use Rattle.std.proofs.Common.{◌≡◌, ◌∙◌}
use Rattle.std.proofs.lemmas.Bool.{lt-ltb, cond-true}
use Rattle.fixed.specs.Rows.{held}
use Rattle.groups.specs.Groups.{items_of}
use Rattle.groups.specs.Items.{insert}
use Rattle.groups.proofs.Rising.{taken, put_is, put_rises}
use Rattle.groups.proofs.group.Group.put.Goals as goal
use Rattle.groups.proofs.group.Group.put.Goals.{After-insert}

done : (c : After-insert) → held c.insert.new.self ≡ insert c.args.item (items_of c.args.self.now)
done c =
    let xs = items_of c.args.self.now in
    let t = taken xs c.args.item.plate c.requires in
    put_is c.args.item xs c.items.result.now _ c.place_of-at.result t c.place_of-at.ensures c.items.ensures
    (c.insert.ensures.after ∙ cond-true _ _ _ (c.insert.ensures.room ∙ lt-ltb _ _ t.few))

pub invariant_of-self : goal.invariant_of-self
invariant_of-self c = record {
  rises = put_rises c.args.item (items_of c.args.self.now) (held c.insert.new.self) (taken (items_of c.args.self.now) c.args.item.plate c.requires) c.args.self.now.rises (done c);
}

pub returns : goal.returns
returns c = done (goal.at.returns c).After-insert
