use Rattle.placed.proofs.Ends.{blank}
use Rattle.frames.specs.Fitted.{fitted}
use Rattle.growing.proofs.Lines.{upto_grown, upto_nothing, overflows}
use Rattle.growing.proofs.with_next.Goals as goal

pub returns-in-Ok : goal.returns-in-Ok
returns-in-Ok g c =
    let p = c.args.frame.plates.now in
    upto_grown (g.C.Crew.admitted c.args.frame.crew.now) (g.met.C.Crew.lawful c.args.frame.crew.now) (fitted p) p.rises c.args.lines.now c.args.at blank c.requires.there c.args.table.now c.requires.upto c.in-Ok.grown c.in-Ok.ensures.grown c.in-Ok.ensures.within

pub returns-in-Err-NothingPossible : goal.returns-in-Err-NothingPossible
returns-in-Err-NothingPossible g c =
    let p = c.args.frame.plates.now in
    upto_nothing (g.C.Crew.admitted c.args.frame.crew.now) (g.met.C.Crew.lawful c.args.frame.crew.now) (fitted p) p.rises c.args.lines.now c.args.at blank c.requires.there c.args.table.now c.requires.upto c.nothing_possible.result c.in-Err-NothingPossible.field-0 c.in-Err-NothingPossible.ensures.grown c.in-Err-NothingPossible.field-0-is c.nothing_possible.ensures

pub returns-in-Err-TooMany : goal.returns-in-Err-TooMany
returns-in-Err-TooMany g c =
    let p = c.args.frame.plates.now in
    overflows (g.C.Crew.admitted c.args.frame.crew.now) (g.met.C.Crew.lawful c.args.frame.crew.now) (fitted p) p.rises c.args.lines.now c.args.at blank c.requires.there c.args.table.now c.requires.upto c.in-Err-TooMany.field-0 c.in-Err-TooMany.ensures.grown c.in-Err-TooMany.field-0-is
