use Rattle.std.proofs.Common.{is_ok, ◌≡◌, false, sym, ◌∙◌}
use Rattle.std.proofs.lemmas.Bool.{both_ways}
use Rattle.placed.specs.Signs.{sign_on, opposed_signs}
use Rattle.placed.specs.Spelling.{spell}
use Rattle.frames.specs.Fitted.{fitted}
use Rattle.rows.specs.Rows.{groups_of}
use Rattle.growing.specs.Gathered.{Met, PairedAt, asked_of}
use Rattle.growing.proofs.Ready.{ready_of}
use Rattle.growing.proofs.Taken.{step_none}
use Rattle.growing.proofs.Pairs.{joined_opposed, joined_is, met_joined, step_goal}
use Rattle.growing.proofs.growth.Growth.pair_at.Goals as goal

pub returns-then-not-has : goal.returns-then-not-has
returns-then-not-has g c =
    let ps = fitted c.args.self.now.frame.plates.now in
    let a = asked_of g.C.Crew.admitted c.args.self.now in
    let k = c.args.place in
    let none : opposed_signs (sign_on c.args.group k) (sign_on c.args.other k) ≡ false = sym (c.opposing.ensures k) ∙ sym c.has.ensures ∙ c.if-not-has.true in
    step_none a (groups_of c.args.new.now) (λ news. PairedAt a news c.args.group c.args.other k) c.requires.gathered
    (λ d j. absurd (both_ways (opposed_signs (sign_on c.args.group k) (sign_on c.args.other k)) none (joined_opposed ps c.args.group c.args.other k (ready_of g.C.Crew.admitted c.args.self.now).climbs c.requires.place d j)))

pub returns : goal.returns
returns g c =
    let ps = fitted c.args.self.now.frame.plates.now in
    let a = asked_of g.C.Crew.admitted c.args.self.now in
    let k = c.args.place in
    let joined = joined_is ps c.args.group c.args.other k (ready_of g.C.Crew.admitted c.args.self.now).climbs c.requires.place c.join.result c.join.ensures (sym (c.opposing.ensures k) ∙ sym c.has.ensures ∙ c.if-not-has.false) in
    step_goal a (groups_of c.args.new.now) (groups_of c.consider.new.new) (is_ok c.consider.result) (λ news. Met a news (spell ps c.join.result)) (λ news. PairedAt a news c.args.group c.args.other k)
    (met_joined a (groups_of c.consider.new.new) c.args.group c.args.other c.join.result k joined) c.consider.ensures
