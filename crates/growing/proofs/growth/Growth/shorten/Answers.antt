use Rattle.std.proofs.Common.{ℕ, List, length, refl, subst}
use Rattle.placed.specs.declared.Placed.{Placed}
use Rattle.telling.specs.Shortened.{WhereTold, Shortened}
use Rattle.growing.specs.Gathered.{asked_of}
use Rattle.growing.proofs.Ready.{ready_of, holds_of}
use Rattle.growing.proofs.growth.Growth.shorten.Goals as goal

pub returns : goal.returns
returns g c =
    let a = asked_of g.C.Crew.admitted c.args.self.now in
    let ready = ready_of g.C.Crew.admitted c.args.self.now in
    let m = c.one_more.result in
    let group = c.args.group in
    let short = Shortened group c.shorten.result in
    let by_places = subst (λ (n : ℕ). WhereTold m.table.now m.line n group short) c.one_more.ensures.places c.shorten.ensures in
    let by_line = subst (λ (l : Placed). WhereTold m.table.now l (length a.plates) group short) c.one_more.ensures.line by_places in
    let by_table = subst (λ (ts : List Placed). WhereTold ts a.line (length a.plates) group short) c.one_more.ensures.table by_line in
    by_table a.plates (holds_of a ready) refl c.requires.within c.requires.told
