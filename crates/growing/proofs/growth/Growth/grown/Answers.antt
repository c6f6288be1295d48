use Rattle.std.proofs.Common.{is_ok, length, sym, ap, ◌∙◌}
use Rattle.rows.specs.Rows.{groups_of}
use Rattle.growing.specs.Gathered.{asked_of}
use Rattle.growing.proofs.Ready.{ready_of}
use Rattle.growing.proofs.Taken.{gathered_within}
use Rattle.growing.proofs.Whole.{answer_nothing, answer_overfull, answer_full, answer_table, stopped_too_many}
use Rattle.growing.proofs.growth.Growth.grown.Goals as goal

pub returns-then-leaves_nothing-clause-grown : goal.returns-then-leaves_nothing-clause-grown
returns-then-leaves_nothing-clause-grown g c =
    answer_nothing (asked_of g.C.Crew.admitted c.args.self.now) (ready_of g.C.Crew.admitted c.args.self.now) (sym c.leaves_nothing.ensures ∙ c.if-leaves_nothing.true)

pub returns-in_err-gather-clause-grown : goal.returns-in_err-gather-clause-grown
returns-in_err-gather-clause-grown g c =
    let a = asked_of g.C.Crew.admitted c.args.self.now in
    stopped_too_many a.crew a.plates a.table a.line c.from_residual.result c.from_residual.ensures.1
    (answer_overfull a (ready_of g.C.Crew.admitted c.args.self.now) (sym c.leaves_nothing.ensures ∙ c.if-leaves_nothing.false) (groups_of c.gather.new.new) (c.gather.ensures.full (ap is_ok c.in_err-gather.was)))

pub returns-in_err-merge-clause-grown : goal.returns-in_err-merge-clause-grown
returns-in_err-merge-clause-grown g c =
    let a = asked_of g.C.Crew.admitted c.args.self.now in
    let new = groups_of c.gather.new.new in
    stopped_too_many a.crew a.plates a.table a.line c.from_residual-in_err-merge.result c.from_residual-in_err-merge.ensures.1
    (answer_full a (ready_of g.C.Crew.admitted c.args.self.now) (sym c.leaves_nothing.ensures ∙ c.if-leaves_nothing.false) new c.gather.ensures.gathered (c.gather.ensures.done (ap is_ok c.in_ok-gather.was)) c.in_err-merge.ensures.merged)

pub returns-clause-grown : goal.returns-clause-grown
returns-clause-grown g c =
    let new = groups_of c.gather.new.new in
    answer_table (asked_of g.C.Crew.admitted c.args.self.now) (ready_of g.C.Crew.admitted c.args.self.now) (sym c.leaves_nothing.ensures ∙ c.if-leaves_nothing.false) new c.gather.ensures.gathered (c.gather.ensures.done (ap is_ok c.in_ok-gather.was)) c.in_ok-merge.field-0 c.in_ok-merge.ensures.merged

pub returns-clause-within : goal.returns-clause-within
returns-clause-within g c =
    let a = asked_of g.C.Crew.admitted c.args.self.now in
    c.in_ok-merge.ensures.within (length a.plates) c.args.self.now.table_within (gathered_within a (groups_of c.gather.new.new) c.gather.ensures.gathered)
