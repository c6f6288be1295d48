use Rattle.std.proofs.Common.{rules, true, false}
use borrow.Author.Tests.{tests}
use Rattle.std.proofs.lemmas.Iterator.{first_from_find, YieldsList-from_slice}
use Rattle.placed.specs.Laws.{CoversOver}
use Rattle.showing.proofs.Covering.{first_told}
use Rattle.showing.proofs.Table.first_cover.Goals as goal

pub returns : goal.returns
returns c ps h =
    let table = c.args.self.now.groups.now in
    first_told ps table c.args.group c.find.result c.copied.result h
    (first_from_find _ _ c.find.result (λ a. CoversOver a c.args.group true) (λ a. CoversOver a c.args.group false) c.find.ensures.ran (YieldsList-from_slice table cc) (λ x q k. search (rules, tests)) (λ x q k. search (rules, tests)))
    c.copied.ensures
