use Rattle.meaning.specs.Frames.{Frame}
use Rattle.showing.proofs.Covering.{found_forbidden}
use Rattle.showing.proofs.Table.show.Goals as goal

pub returns-in-Some : goal.returns-in-Some
returns-in-Some c crew ps lines h e w sound right able =
    let f : Frame = record { crew = crew; plates = ps; lines = lines } in
    let found = c.in-Some.ensures ps h in
    (found_forbidden f c.args.self.now.groups.now c.args.group c.in-Some.cover h sound right able found, found)
