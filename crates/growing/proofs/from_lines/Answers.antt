use Rattle.frames.specs.Fitted.{fitted}
use Rattle.growing.proofs.Lines.{upto_none}
use Rattle.growing.proofs.from_lines.Goals as goal

pub loop-at-init : goal.loop-at-init
loop-at-init g c =
    let p = c.args.frame.plates.now in
    upto_none (g.C.Crew.admitted c.args.frame.crew.now) (g.met.C.Crew.lawful c.args.frame.crew.now) (fitted p) p.rises c.args.lines.now c.new-table.result c.new-table.ensures
