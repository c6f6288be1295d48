use Rattle.std.proofs.Common.{◌≡◌, ℕ, nat_lt}
use Rattle.levers.specs.Sets.{has}
use Rattle.cutting.proofs.levers_of.Given as goal

abbrev pub invariant-loop-place : goal.invariant-loop-place
invariant-loop-place l = (k : ℕ) → has l.levers k ≡ nat_lt k l.place
