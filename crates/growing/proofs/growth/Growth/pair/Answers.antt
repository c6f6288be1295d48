use Rattle.std.proofs.Common.{is_ok, ℕ, ◌+◌, ◌<◌, length, sym, ap, ◌∙◌, arith}
use Rattle.std.proofs.lemmas.Bool.{both_ways}
use Rattle.placed.specs.Signs.{sign_on, opposed_signs}
use Rattle.frames.specs.Fitted.{fitted}
use Rattle.rows.specs.Rows.{groups_of}
use Rattle.growing.specs.Gathered.{Paired, PairedAt, asked_of}
use Rattle.growing.proofs.Ready.{ready_of}
use Rattle.growing.proofs.Taken.{step_none}
use Rattle.growing.proofs.Pairs.{joined_opposed, paired_all, paired_more, way_more, way_end}
use Rattle.growing.proofs.growth.Growth.pair.Goals as goal

pub returns-then-is_none : goal.returns-then-is_none
returns-then-is_none g c =
    let ps = fitted c.args.self.now.frame.plates.now in
    let a = asked_of g.C.Crew.admitted c.args.self.now in
    step_none a (groups_of c.args.new.now) (λ news. Paired a news c.args.group c.args.other) c.requires.gathered
    (paired_all a (groups_of c.args.new.now) c.args.group c.args.other (λ k l d j.
    absurd (both_ways (opposed_signs (sign_on c.args.group k) (sign_on c.args.other k)) (sym (c.opposing.ensures k) ∙ c.is_none.ensures.0 c.if-is_none.true k) (joined_opposed ps c.args.group c.args.other k (ready_of g.C.Crew.admitted c.args.self.now).climbs l d j))))

pub loop-place-preserved : goal.loop-place-preserved
loop-place-preserved g c =
    let a = asked_of g.C.Crew.admitted c.args.self.now in
    let k = c.loop-place.place in
    way_more a (groups_of c.args.new.now) (groups_of c.loop-place.new) (groups_of c.pair_at.new.new) (is_ok c.pair_at.result)
    (λ news. (j : ℕ) → j < k → PairedAt a news c.args.group c.args.other j) (λ news. PairedAt a news c.args.group c.args.other k) (λ news. (j : ℕ) → j < k + 1 → PairedAt a news c.args.group c.args.other j)
    (ap is_ok c.in_ok-pair_at.was) c.loop-place.invariant c.pair_at.ensures (paired_more a (groups_of c.loop-place.new) (groups_of c.pair_at.new.new) c.args.group c.args.other k)

pub returns : goal.returns
returns g c =
    let a = asked_of g.C.Crew.admitted c.args.self.now in
    way_end a (groups_of c.args.new.now) (groups_of c.loop-place.new) (λ news. (j : ℕ) → j < c.loop-place.place → PairedAt a news c.args.group c.args.other j) (λ news. Paired a news c.args.group c.args.other) c.loop-place.invariant
    (λ below. paired_all a (groups_of c.loop-place.new) c.args.group c.args.other (λ k l. below k (omega (arith, c.loop-place-test.false, ap length c.all-place-end.ensures))))
