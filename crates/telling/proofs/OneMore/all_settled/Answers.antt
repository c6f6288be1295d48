use Rattle.std.proofs.Common.{rules, arith, refl, true, false}
use borrow.Author.Tests.{tests}
use Rattle.std.proofs.lemmas.Iterator.{cases_from_all, YieldsList-from_range}
use Rattle.telling.specs.Told.{SettledOver}
use Rattle.telling.proofs.Steps.{settled_told}
use Rattle.telling.proofs.OneMore.all_settled.Goals as goal

pub returns : goal.returns
returns c ps h e =
    let more = c.args.self.now in
    settled_told ps more.table.now more.line c.args.group more.places c.all.result h e
    (cases_from_all _ _ _ (λ k. SettledOver more.table.now more.line c.args.group k true) (λ k. SettledOver more.table.now more.line c.args.group k false) c.all.ensures.ran (YieldsList-from_range 0 more.places more.places refl (omega arith)) (λ x q k. search (rules, tests)) (λ x q k. search (rules, tests)))
