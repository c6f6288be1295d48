use Rattle.meaning.proofs.Shrinking.{table_covers}
use Rattle.meaning.proofs.table_covers.Goals as goal

pub returns : goal.returns
returns c = table_covers
