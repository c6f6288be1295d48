use Rattle.frames.specs.Fitted.{fitted}
use Rattle.growing.specs.Growth.{TableUpto}
use Rattle.growing.proofs.from_lines.Given as goal

abbrev pub invariant-loop-at : goal.invariant-loop-at
invariant-loop-at g l = TableUpto (g.C.Crew.admitted l.frame.crew.now) (fitted l.frame.plates.now) l.lines l.at l.table
