use Rattle.std.proofs.Common.{ap, is_ok, ℕ, ◌<◌, length, get_or, sym, subst, arith}
use Rattle.std.specs.List.{AllByRecursion}
use Rattle.placed.specs.declared.Placed.{Placed}
use Rattle.rows.specs.Rows.{groups_of}
use Rattle.growing.specs.Gathered.{Paired, PairedOne, asked_of}
use Rattle.growing.proofs.Pairs.{all_grew, grew_at, grew_length, step_goal, step_after}
use Rattle.growing.proofs.growth.Growth.combine_one.Goals as goal

pub returns : goal.returns
returns g c =
    let a = asked_of g.C.Crew.admitted c.args.self.now in
    let old = groups_of c.args.new.now in
    let mid = groups_of c.pair_with_table.new.new in
    let news = groups_of c.pair_with_new.new.new in
    let at = c.args.at in
    let first = c.pair_with_table.ensures in
    let second = c.pair_with_new.ensures in
    let l : at < length mid = omega (arith, c.requires.there, grew_length old mid first.grew) in
    step_after a old mid news (is_ok c.pair_with_new.result) (PairedOne a at) first.grew
    (step_goal a mid news (is_ok c.pair_with_new.result) (λ n. (d : Placed) (j : ℕ) → j < at → Paired a n (get_or n at d) (get_or n j d)) (PairedOne a at)
    (λ before. record {
      table = λ d. subst (λ z. AllByRecursion (Paired a news z) a.table) (sym (grew_at mid news at d second.grew l)) (all_grew a mid news (get_or mid at d) a.table second.grew (first.done (ap is_ok c.in_ok-pair_with_table.was) d));
      before = before;
    })
    second)
