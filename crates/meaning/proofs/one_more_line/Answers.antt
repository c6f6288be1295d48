use Rattle.meaning.proofs.OneMore.{one_more_line}
use Rattle.meaning.proofs.one_more_line.Goals as goal

pub returns : goal.returns
returns c = one_more_line
