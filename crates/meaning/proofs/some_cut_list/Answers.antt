use Rattle.meaning.proofs.some_cut_list.Goals as goal
use Rattle.meaning.proofs.SomeCutList.{some_cut_list}

pub returns : goal.returns
returns c = some_cut_list
