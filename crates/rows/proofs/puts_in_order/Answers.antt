use Rattle.rows.proofs.Ordered.{puts_in_order}
use Rattle.rows.proofs.puts_in_order.Goals as goal

pub returns : goal.returns
returns c = puts_in_order
