use Rattle.placed.proofs.Own.{own_count}
use Rattle.placed.proofs.Ordered.{counted}
use Rattle.placed.proofs.Placed.number.Goals as goal

pub returns-clause-over : goal.returns-clause-over
returns-clause-over c ps w = counted ps c.args.self c.union.result c.count.result c.union.ensures c.count.ensures w

pub returns-clause-own : goal.returns-clause-own
returns-clause-own c = own_count c.args.self c.count.result (returns-clause-over c)
