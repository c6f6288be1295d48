use Rattle.meaning.proofs.one_table.Goals as goal
use Rattle.meaning.proofs.OneTable.{one_table}

pub returns : goal.returns
returns c = one_table
