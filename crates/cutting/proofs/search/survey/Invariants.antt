use Rattle.std.proofs.Common.{List, ◌++◌, take, Ok}
use Rattle.placed.specs.declared.Placed.{Placed}
use Rattle.cutting.specs.Searching.{Surveyed}
use Rattle.cutting.proofs.search.survey.Given as goal

abbrev pub invariant-loop-line : goal.invariant-loop-line
invariant-loop-line l = (before : List Placed) → Surveyed l.levers before l.set (Ok l.fn.others) → Surveyed l.levers (before ++ take l.line-index l.lines) l.set (Ok l.best)
