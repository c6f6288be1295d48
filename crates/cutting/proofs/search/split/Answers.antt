use Rattle.std.proofs.Common.{arith}
use Rattle.cutting.proofs.Escaping.{halved}
use Rattle.cutting.proofs.search.split.Goals as goal

pub returns : goal.returns
returns c = halved c.args.levers c.args.set c.with.result c.with-2.result c.args.lever (omega arith) c.requires c.with.ensures c.with-2.ensures
