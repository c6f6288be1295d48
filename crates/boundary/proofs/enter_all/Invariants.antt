use lib.ListN.{length}
use Rattle.frames.specs.Fitted.{fitted}
use Rattle.rows.specs.Rows.{groups_of, AllWithin}
use Rattle.boundary.proofs.enter_all.Given as goal

abbrev pub invariant-loop-bytes : goal.invariant-loop-bytes
invariant-loop-bytes g l = AllWithin (length (fitted l.frame.plates.now)) (groups_of l.table)
