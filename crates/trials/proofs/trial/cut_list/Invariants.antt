-- Each turn leaves one line less.
use Rattle.std.proofs.Common.{length}
use Rattle.trials.proofs.trial.cut_list.Given as goal

abbrev pub decreases-loop-line : goal.decreases-loop-line
decreases-loop-line l = length l.left
