use Rattle.meaning.proofs.some_table.Goals as goal
use Rattle.meaning.proofs.SomeTable.{some_table}

pub returns : goal.returns
returns c = some_table
