use Rattle.std.proofs.Common.{is_ok, ◌+◌, ◌<◌, length, ap, arith}
use Rattle.rows.specs.Rows.{groups_of}
use Rattle.growing.specs.Gathered.{PairedOne, ClosedBelow, asked_of}
use Rattle.growing.proofs.Pairs.{closed_more, grew_length, way_more}
use Rattle.growing.proofs.growth.Growth.combine_all.Goals as goal

pub loop-at-preserved : goal.loop-at-preserved
loop-at-preserved g c =
    let a = asked_of g.C.Crew.admitted c.args.self.now in
    let mid = groups_of c.loop-at.new in
    let news = groups_of c.combine_one.new.new in
    let k = c.loop-at.at in
    let l : k < length mid = omega (arith, c.loop-at-test.true, ap length c.all.ensures) in (
      omega (arith, l, grew_length mid news c.combine_one.ensures.grew),
      way_more a (groups_of c.args.new.now) mid news (is_ok c.combine_one.result) (ClosedBelow a k) (PairedOne a k) (ClosedBelow a (k + 1)) (ap is_ok c.in_ok-combine_one.was) c.loop-at.invariant.1 c.combine_one.ensures
          (closed_more a k mid news l),
    )
