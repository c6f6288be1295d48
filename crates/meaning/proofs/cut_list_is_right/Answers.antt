use Rattle.meaning.proofs.cut_list_is_right.Goals as goal
use Rattle.meaning.proofs.Cuts.{cut_list_is_right}

pub returns : goal.returns
returns c = cut_list_is_right
