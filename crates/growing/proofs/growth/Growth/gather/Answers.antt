use Rattle.std.proofs.Common.{is_ok, length, ap}
use Rattle.placed.specs.Spelling.{spell}
use Rattle.rows.specs.Rows.{groups_of}
use Rattle.growing.specs.Gathered.{ClosedBelow, Complete, asked_of}
use Rattle.growing.proofs.Taken.{met_grew}
use Rattle.growing.proofs.Pairs.{step_goal, step_after}
use Rattle.growing.proofs.growth.Growth.gather.Goals as goal

pub returns : goal.returns
returns g c =
    let a = asked_of g.C.Crew.admitted c.args.self.now in
    let old = groups_of c.args.new.now in
    let mid = groups_of c.consider.new.new in
    let news = groups_of c.combine_all.new.new in
    let first = c.consider.ensures in
    let second = c.combine_all.ensures in
    step_after a old mid news (is_ok c.combine_all.result) (Complete a) first.grew
    (step_goal a mid news (is_ok c.combine_all.result) (λ n. ClosedBelow a (length n) n) (Complete a)
    (λ closed. record { line = met_grew a mid news (spell a.plates a.line) second.grew (first.done (ap is_ok c.in_ok-consider.was)); closed = closed })
    second)
