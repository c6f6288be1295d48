use Rattle.std.proofs.Common.{take}
use Rattle.std.specs.List.{AllByRecursion}
use Rattle.rows.specs.Rows.{groups_of}
use Rattle.growing.specs.Gathered.{Paired, asked_of}
use Rattle.growing.proofs.Pairs.{OnTheWay}
use Rattle.growing.proofs.growth.Growth.pair_with_table.Given as goal

abbrev pub invariant-loop-other : goal.invariant-loop-other
invariant-loop-other g l =
    OnTheWay (asked_of g.C.Crew.admitted l.self) (groups_of l.initial.new) (groups_of l.new)
    (λ news. AllByRecursion (Paired (asked_of g.C.Crew.admitted l.self) news l.group) (take l.other-index l.other-items))
