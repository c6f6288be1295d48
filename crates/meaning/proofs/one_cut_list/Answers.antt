use Rattle.meaning.proofs.one_cut_list.Goals as goal
use Rattle.meaning.proofs.Cuts.{one_cut_list}

pub returns : goal.returns
returns c = one_cut_list
