use Rattle.std.proofs.Common.{length}
use Rattle.fixed.specs.Rows.{held}
use Rattle.frames.specs.Fitted.{fitted}
use Rattle.cutting.proofs.Turns.{GoneThrough}
use Rattle.cutting.proofs.cut_list.Given as goal

abbrev pub invariant-loop-line : goal.invariant-loop-line
invariant-loop-line g l = GoneThrough (g.C.Crew.admitted l.frame.crew.now) (fitted l.frame.plates.now) (held l.lines) l.rest (held l.kept)

-- with each turn one line fewer is left
abbrev pub decreases-loop-line : goal.decreases-loop-line
decreases-loop-line g l = length l.rest
