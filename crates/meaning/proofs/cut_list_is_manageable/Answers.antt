use Rattle.meaning.proofs.Cuts.{cut_list_is_manageable}
use Rattle.meaning.proofs.cut_list_is_manageable.Goals as goal

pub returns : goal.returns
returns c = cut_list_is_manageable
