use Rattle.meaning.proofs.Plain.{nothing_possible}
use Rattle.meaning.proofs.nothing_possible.Goals as goal

pub returns : goal.returns
returns c = nothing_possible
