use Rattle.std.proofs.Common.{ℕ, List}
use Rattle.rows.specs.Rows.{groups_of, AllWithin}
use Rattle.growing.specs.Merging.{Mergeable, MergedUpto}
use Rattle.growing.proofs.merging.merge.Given as goal

abbrev pub invariant-loop-group : goal.invariant-loop-group
invariant-loop-group l =
    ((ps : List ℕ) → Mergeable ps (groups_of l.initial.table) l.added → MergedUpto l.group-index ps (groups_of l.initial.table) l.added (groups_of l.merged))
    × ((n : ℕ) → AllWithin n (groups_of l.initial.table) → AllWithin n l.added → AllWithin n (groups_of l.merged))
