use Rattle.std.proofs.Common.{arith}
use Rattle.std.proofs.lemmas.Grind.{common_steps}
use Rattle.reading.proofs.Plates.{right_number_by}
use Rattle.reading.proofs.reader.whole_number.Goals as goal

pub returns-in_err-plate-clause-right : goal.returns-in_err-plate-clause-right
returns-in_err-plate-clause-right c = right_number_by _ _ _ (grind (arith, common_steps))

pub returns-in_err-end_due-clause-right : goal.returns-in_err-end_due-clause-right
returns-in_err-end_due-clause-right c = right_number_by _ _ _ (grind (arith, common_steps))

pub returns-clause-right : goal.returns-clause-right
returns-clause-right c = right_number_by _ _ _ (grind (arith, common_steps))
