use Rattle.std.proofs.Common.{rules}
use Rattle.placed.proofs.Ends.{same_groups}
use Rattle.placed.proofs.Own.{answers_equal}
use Rattle.placed.proofs.Ordered.{signs_over, signs_own}
use Rattle.placed.proofs.Placed.order_by_signs.Goals as goal

pub returns-in-None-clause-over : goal.returns-in-None-clause-over
returns-in-None-clause-over c ps r v w e = same_groups c.args.self c.args.other c.in-None.ensures

pub returns-in-None-clause-answer : goal.returns-in-None-clause-answer
returns-in-None-clause-answer c e = answers_equal c.args.self c.args.other (same_groups c.args.self c.args.other c.in-None.ensures)

pub returns-in-Some-clause-over : goal.returns-in-Some-clause-over
returns-in-Some-clause-over c ps r v w e =
    let d = c.in-Some.ensures in
    signs_over ps c.args.self c.args.other c.in-Some.place c.order_of_signs.result r v w d.0 d.1 (search rules) e

pub returns-in-Some-clause-answer : goal.returns-in-Some-clause-answer
returns-in-Some-clause-answer c e =
    let d = c.in-Some.ensures in
    signs_own c.args.self c.args.other c.in-Some.place c.order_of_signs.result d.0 d.1 (search rules) e
