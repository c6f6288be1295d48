use Rattle.meaning.proofs.Combining.{combination_is_forbidden}
use Rattle.meaning.proofs.combination_is_forbidden.Goals as goal

pub returns : goal.returns
returns c = combination_is_forbidden
