use Rattle.std.proofs.Common.{ℕ, ◌<◌, get_or}
use Rattle.placed.specs.declared.Placed.{Placed}
use Rattle.rows.specs.Rows.{groups_of}
use Rattle.growing.specs.Gathered.{Paired, asked_of}
use Rattle.growing.proofs.Pairs.{OnTheWay}
use Rattle.growing.proofs.growth.Growth.pair_with_new.Given as goal

abbrev pub invariant-loop-place : goal.invariant-loop-place
invariant-loop-place g l =
    OnTheWay (asked_of g.C.Crew.admitted l.self) (groups_of l.initial.new) (groups_of l.new)
    (λ news. (d : Placed) (j : ℕ) → j < l.place → Paired (asked_of g.C.Crew.admitted l.self) news l.group (get_or news j d))
