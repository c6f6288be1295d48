use Rattle.std.proofs.Common.{arith}
use Rattle.crews.proofs.Counts.{both_sides}
use Rattle.crews.proofs.counting.parted.Goals as goal

pub overflow_sub-result : goal.overflow_sub-result
overflow_sub-result c = omega (arith, c.below-below.ensures, both_sides c.args.plate c.args.plates.now)

pub returns-clause-upwards : goal.returns-clause-upwards
returns-clause-upwards c = omega (arith, c.below-below.ensures, both_sides c.args.plate c.args.plates.now)
