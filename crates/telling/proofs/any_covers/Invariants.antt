use Rattle.std.proofs.Common.{◌≡◌, ℕ, List, drop}
use Rattle.meaning.specs.Tables.{covered_by}
use Rattle.placed.specs.Spelling.{spell}
use Rattle.rows.specs.Rows.{spell_all}
use Rattle.telling.specs.Told.{Holds}
use Rattle.telling.proofs.any_covers.Given as goal

abbrev pub invariant-loop-other : goal.invariant-loop-other
invariant-loop-other l = (ps : List ℕ) → Holds ps l.table → covered_by (spell_all ps (drop l.other-index l.table)) (spell ps l.group) ≡ covered_by (spell_all ps l.table) (spell ps l.group)
