use Rattle.std.proofs.Common.{ap, ◌∙◌}
use Rattle.growing.specs.Gathered.{asked_of, told_of}
use Rattle.growing.proofs.Whole.{spell_empty}
use Rattle.growing.proofs.growth.Growth.leaves_nothing.Goals as goal

pub returns : goal.returns
returns g c =
    let a = asked_of g.C.Crew.admitted c.args.self.now in
    c.tells.ensures ∙ ap (told_of a) (spell_empty a.plates c.empty.result c.empty.ensures)
