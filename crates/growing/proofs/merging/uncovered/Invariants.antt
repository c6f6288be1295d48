use Rattle.std.proofs.Common.{◌≡◌, ℕ, ◌≤◌, List, length, take}
use Rattle.rows.specs.Rows.{groups_of, AllWithin}
use Rattle.telling.specs.Told.{Holds}
use Rattle.growing.specs.Merging.{uncovered_of}
use Rattle.growing.proofs.merging.uncovered.Given as goal

abbrev pub invariant-loop-group : goal.invariant-loop-group
invariant-loop-group l = (length (groups_of l.rest) ≤ l.group-index) × ((ps : List ℕ) → Holds ps l.new → groups_of l.rest ≡ uncovered_of ps l.new (take l.group-index l.group-items)) × ((n : ℕ) → AllWithin n l.group-items → AllWithin n (groups_of l.rest))
