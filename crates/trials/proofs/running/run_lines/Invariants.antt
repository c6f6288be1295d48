-- The groups of the table name no lever that is not fitted.
use Rattle.std.proofs.Common.{length}
use Rattle.frames.specs.Fitted.{fitted}
use Rattle.rows.specs.Rows.{groups_of, AllWithin}
use Rattle.trials.proofs.running.run_lines.Given as goal

abbrev pub invariant-loop-group : goal.invariant-loop-group
invariant-loop-group g l = AllWithin (length (fitted l.frame.plates.now)) (groups_of l.table)
