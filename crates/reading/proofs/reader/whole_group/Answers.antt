use Rattle.std.proofs.Common.{arith}
use Rattle.std.proofs.lemmas.Grind.{common_steps}
use Rattle.reading.proofs.Laws.{right_by}
use Rattle.reading.proofs.reader.whole_group.Goals as goal

pub returns-in_err-open_due-clause-right : goal.returns-in_err-open_due-clause-right
returns-in_err-open_due-clause-right c = right_by _ _ _ (grind (arith, common_steps)) (omega arith)

pub returns-clause-right : goal.returns-clause-right
returns-clause-right c = right_by _ _ _ (grind (arith, common_steps)) (omega arith)
