use Rattle.std.proofs.lemmas.Bool.{both_ways}
use Rattle.cutting.proofs.Surveying.{weighed_fails}
use Rattle.cutting.proofs.search.weigh.Goals as goal

pub returns-then-not-is_none : goal.returns-then-not-is_none
returns-then-not-is_none c =
    weighed_fails c.args.levers c.args.line c.args.set c.intersection-lacking.result c.union-settled.result c.intersection.result
    (λ k. cc (c.intersection-lacking.ensures k, c.lacking.ensures k))
    c.intersection.ensures c.between.result
    (λ k. cc (c.union-settled.ensures k, c.named.ensures k))
    c.between.ensures
    (λ none. both_ways c.is_none.result c.if-not-is_none.true (c.is_none.ensures.1 none))
