use Rattle.std.proofs.Common.{ℕ, ◌<◌}
use Rattle.rows.specs.Rows.{groups_of}
use Rattle.growing.specs.Gathered.{PairedAt, asked_of}
use Rattle.growing.proofs.Pairs.{OnTheWay}
use Rattle.growing.proofs.growth.Growth.pair.Given as goal

abbrev pub invariant-loop-place : goal.invariant-loop-place
invariant-loop-place g l =
    OnTheWay (asked_of g.C.Crew.admitted l.self) (groups_of l.initial.new) (groups_of l.new)
    (λ news. (k : ℕ) → k < l.place → PairedAt (asked_of g.C.Crew.admitted l.self) news l.group l.other k)
