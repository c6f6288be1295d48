use Rattle.telling.specs.Gaps.{gap_of}
use Rattle.std.proofs.Common.{◌∙◌}
use Rattle.telling.proofs.Steps.{told_opposite}
use Rattle.telling.proofs.OneMore.settled.Goals as goal

pub returns-in-Opposite : goal.returns-in-Opposite
returns-in-Opposite c ps h l =
    let more = c.args.self.now in
    told_opposite more.table.now more.line c.args.group c.args.place ps h l c.in-Opposite.sign c.with.result c.covered.result
    (c.in-Opposite.ensures ∙ (λ i. gap_of (c.sign.ensures i) (c.sign-2.ensures i))) c.with.ensures (c.covered.ensures ps h)
