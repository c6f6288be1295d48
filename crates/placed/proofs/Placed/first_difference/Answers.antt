use Rattle.placed.proofs.Ordered.{first_differs}
use Rattle.placed.proofs.Placed.first_difference.Goals as goal

pub returns : goal.returns
returns c =
    first_differs c.args.self c.args.other c.difference-upper.result c.difference-lower.result c.union.result c.first.result c.difference-upper.ensures c.difference-lower.ensures c.union.ensures c.first.ensures
