use Rattle.meaning.proofs.Small.{small_frames_lem}
use Rattle.meaning.proofs.small_frames_stand.Goals as goal

pub returns : goal.returns
returns c = small_frames_lem
