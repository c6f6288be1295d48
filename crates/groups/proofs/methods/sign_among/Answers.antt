use Rattle.std.proofs.Common.{Some, sym, ap, ◌∙◌, arith}
use Rattle.groups.proofs.Rising.{blank, sign_found, sign_missing}
use Rattle.groups.proofs.methods.sign_among.Goals as goal

pub returns-in-Some : goal.returns-in-Some
returns-in-Some c =
    let there = c.in-Some.ensures.lookup.3 in
    let item = there.1 blank in
    ap (λ i. Some i.sign) item ∙ sym (sign_found c.args.plate c.args.items.now blank c.place_of.result c.place_of.ensures there.0 (ap (λ i. i.plate) (sym item) ∙ c.if-item-plate.true))

-- that item has another plate
pub returns-in-Some-2 : goal.returns-in-Some-2
returns-in-Some-2 c =
    sym (sign_missing c.args.plate 0 c.args.items.now blank c.place_of.result c.requires c.place_of.ensures (λ lt q. c.if-item-plate.false (ap (λ i. i.plate) (c.in-Some.ensures.lookup.3.1 blank) ∙ q)))

-- there is none
pub returns-in-Some-2-2 : goal.returns-in-Some-2-2
returns-in-Some-2-2 c =
    sym (sign_missing c.args.plate 0 c.args.items.now blank c.place_of.result c.requires c.place_of.ensures (λ lt q. omega (arith, lt, c.in-Some-2.ensures.lookup.3)))
