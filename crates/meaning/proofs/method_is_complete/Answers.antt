use Rattle.meaning.proofs.Complete.{method_is_complete}
use Rattle.meaning.proofs.method_is_complete.Goals as goal

pub returns : goal.returns
returns c = method_is_complete
