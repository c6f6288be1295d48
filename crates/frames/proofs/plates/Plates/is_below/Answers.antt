use Rattle.std.proofs.Common.{◌≡◌, true, [], ◌∷◌, ◌++◌, ap, ◌∙◌}
use Rattle.groups.specs.Rises.{climbing}
use Rattle.frames.proofs.Fitting.{climbs_behind}
use Rattle.frames.proofs.plates.Plates.is_below.Goals as goal

pub returns-in-Some : goal.returns-in-Some
returns-in-Some c =
    let ps = c.all.result.now in
    let rises : climbing 0 ps ≡ true = ap (climbing 0) c.all.ensures ∙ c.args.self.now.rises in
    let read = c.in-Some.ensures.item.3 in
    cc (read.1 0, climbs_behind ps c.args.plate rises c.requires read.0) ∙ ap (λ l. climbing 0 (l ++ (c.args.plate ∷ []))) c.all.ensures
