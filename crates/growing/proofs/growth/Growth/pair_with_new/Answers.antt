use Rattle.std.proofs.Common.{is_ok, ℕ, ◌+◌, ◌<◌, length, get_or, ap, ◌∙◌, subst, arith}
use Rattle.std.proofs.lemmas.List.{get_or_default}
use Rattle.placed.specs.declared.Placed.{Placed}
use Rattle.placed.proofs.Ends.{blank}
use Rattle.rows.specs.Rows.{groups_of}
use Rattle.growing.specs.Gathered.{Paired, asked_of}
use Rattle.growing.proofs.Pairs.{before_more, grew_length, way_more, way_end, read_at}
use Rattle.growing.proofs.growth.Growth.pair_with_new.Goals as goal

pub loop-place-preserved : goal.loop-place-preserved
loop-place-preserved g c =
    let a = asked_of g.C.Crew.admitted c.args.self.now in
    let group = get_or c.all.result.now c.args.at blank in
    let mid = groups_of c.loop-place.new in
    let news = groups_of c.pair.new.new in
    let k = c.loop-place.place in
    let l : k < length mid = omega (arith, c.requires.there, c.loop-place-test.true, grew_length (groups_of c.args.new.now) mid c.loop-place.invariant.grew) in
    way_more a (groups_of c.args.new.now) mid news (is_ok c.pair.result)
    (λ n. (d : Placed) (j : ℕ) → j < k → Paired a n group (get_or n j d)) (λ n. Paired a n group (get_or c.all-in-loop-place.result.now k blank)) (λ n. (d : Placed) (j : ℕ) → j < k + 1 → Paired a n group (get_or n j d))
    (ap is_ok c.in_ok-pair.was) c.loop-place.invariant c.pair.ensures
    (λ more below here. before_more a mid news group k l more below (λ d. subst (Paired a news group) (ap (λ gs. get_or gs k blank) c.all-in-loop-place.ensures ∙ get_or_default mid k blank d l) here))

pub returns : goal.returns
returns g c =
    let a = asked_of g.C.Crew.admitted c.args.self.now in
    let group = get_or c.all.result.now c.args.at blank in
    let old = groups_of c.args.new.now in
    let news = groups_of c.loop-place.new in
    way_end a old news (λ n. (d : Placed) (j : ℕ) → j < c.loop-place.place → Paired a n group (get_or n j d)) (λ n. (d : Placed) (j : ℕ) → j < c.args.at → Paired a n (get_or n c.args.at d) (get_or n j d)) c.loop-place.invariant
    (λ below d j l. subst (λ z. Paired a news z (get_or news j d)) (read_at c.all.result.now old news c.args.at d blank c.all.ensures c.loop-place.invariant.grew c.requires.there) (below d j (omega (arith, c.loop-place-test.false))))
