use Rattle.meaning.proofs.Plain.{other_levers}
use Rattle.meaning.proofs.other_levers.Goals as goal

pub returns : goal.returns
returns c = other_levers
