use Rattle.std.proofs.Common.{◌-◌, ◌≤◌, length}
use Rattle.rows.specs.Rows.{groups_of}
use Rattle.growing.specs.Gathered.{ClosedBelow, asked_of}
use Rattle.growing.proofs.Pairs.{OnTheWay}
use Rattle.growing.proofs.growth.Growth.combine_all.Given as goal

abbrev pub invariant-loop-at : goal.invariant-loop-at
invariant-loop-at g l =
    (l.at ≤ length (groups_of l.new)) ×
    OnTheWay (asked_of g.C.Crew.admitted l.self) (groups_of l.initial.new) (groups_of l.new) (ClosedBelow (asked_of g.C.Crew.admitted l.self) l.at)

abbrev pub decreases-loop-at : goal.decreases-loop-at
decreases-loop-at g l = 512 - l.at
