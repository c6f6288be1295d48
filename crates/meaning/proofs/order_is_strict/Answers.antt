use Rattle.meaning.proofs.order_is_strict.Goals as goal
use Rattle.meaning.proofs.Order.{order_is_strict}

pub returns : goal.returns
returns c = order_is_strict
