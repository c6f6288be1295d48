use Rattle.std.proofs.Common.{sym, ◌∙◌}
use Rattle.placed.proofs.Ends.{blank}
use Rattle.telling.proofs.Steps.{covered_here, covered_later, covered_end, within_at}
use Rattle.telling.proofs.any_covers.Goals as goal

pub returns-then-covers : goal.returns-then-covers
returns-then-covers c ps h =
    let table = c.args.table.now in
    let i = c.loop-other.other-index in
    let l = c.loop-other-test.true in
    sym (sym (c.loop-other.invariant ps h) ∙ covered_here ps table c.args.group i blank l (sym (c.covers.ensures ps h.climbs (within_at ps table i blank l h.within)) ∙ c.if-covers.true))

pub loop-other-preserved : goal.loop-other-preserved
loop-other-preserved c ps h =
    let table = c.args.table.now in
    let i = c.loop-other.other-index in
    let l = c.loop-other-test.true in
    covered_later ps table c.args.group i blank l (sym (c.covers.ensures ps h.climbs (within_at ps table i blank l h.within)) ∙ c.if-covers.false) ∙ c.loop-other.invariant ps h

pub returns : goal.returns
returns c ps h =
    sym (sym (c.loop-other.invariant ps h) ∙ covered_end ps c.args.table.now c.args.group c.loop-other.other-index c.loop-other-test.false)
