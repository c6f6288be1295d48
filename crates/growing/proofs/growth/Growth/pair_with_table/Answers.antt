use Rattle.std.proofs.Common.{is_ok, ◌+◌, get_or, take, ap}
use Rattle.std.specs.List.{AllByRecursion}
use Rattle.placed.proofs.Ends.{blank}
use Rattle.rows.specs.Rows.{groups_of}
use Rattle.growing.specs.Gathered.{Paired, asked_of}
use Rattle.growing.proofs.Pairs.{table_more, way_more}
use Rattle.growing.proofs.growth.Growth.pair_with_table.Goals as goal

pub loop-other-preserved : goal.loop-other-preserved
loop-other-preserved g c =
    let a = asked_of g.C.Crew.admitted c.args.self.now in
    let group = get_or c.all.result.now c.args.at blank in
    let table = c.all-other-items.result.now in
    let i = c.loop-other.other-index in
    way_more a (groups_of c.args.new.now) (groups_of c.loop-other.new) (groups_of c.pair.new.new) (is_ok c.pair.result)
    (λ news. AllByRecursion (Paired a news group) (take i table)) (λ news. Paired a news group (get_or table i blank)) (λ news. AllByRecursion (Paired a news group) (take (i + 1) table))
    (ap is_ok c.in_ok-pair.was) c.loop-other.invariant c.pair.ensures (table_more a (groups_of c.loop-other.new) (groups_of c.pair.new.new) group table i blank c.loop-other-test.true)
