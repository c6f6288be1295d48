use Rattle.meaning.proofs.Resting.{forbidden_is_excluded}
use Rattle.meaning.proofs.forbidden_is_excluded.Goals as goal

pub returns : goal.returns
returns c = forbidden_is_excluded
