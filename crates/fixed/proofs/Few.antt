-- How many items a row holds. Assumes nothing.
use Rattle.std.proofs.Common.{ℕ, ◌≤◌, length, length-take, arith}
use Rattle.fixed.specs.declared.row.Row.{Row}
use Rattle.fixed.specs.Rows.{held}

-- no more than it has places for
pub few_held : {T : Type 0} {n : ℕ} (r : Row T n) → length (held r) ≤ n
few_held r = omega (arith, length-take r.count r.places, r.few)
