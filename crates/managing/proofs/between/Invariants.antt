use Rattle.std.proofs.Common.{◌≡◌, ◌≤◌, length, take}
use Rattle.fixed.specs.Rows.{held}
use Rattle.meaning.specs.Frames.{stars}
use Rattle.placed.specs.Spelling.{spell}
use Rattle.managing.proofs.between.Given as goal

abbrev pub invariant-loop-place : goal.invariant-loop-place
invariant-loop-place l = (length (held l.moving) ≤ l.place) × (held l.moving ≡ stars (spell (take l.place l.plate-items) l.group))
