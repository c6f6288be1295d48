use Rattle.meaning.proofs.Combining.{combination_follows}
use Rattle.meaning.proofs.combination_follows.Goals as goal

pub returns : goal.returns
returns c = combination_follows
