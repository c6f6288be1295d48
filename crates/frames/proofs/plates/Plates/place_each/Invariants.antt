use Rattle.std.proofs.Common.{drop}
use Rattle.frames.specs.Fitted.{fitted}
use Rattle.frames.proofs.Placing.{Placing}
use Rattle.frames.proofs.plates.Plates.place_each.Given as goal

abbrev pub invariant-loop-item : goal.invariant-loop-item
invariant-loop-item l = Placing (fitted l.self) l.item-items (drop l.item-index l.item-items) l.placed
