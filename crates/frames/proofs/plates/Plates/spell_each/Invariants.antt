use Rattle.std.proofs.Common.{◌≡◌, take}
use Rattle.groups.specs.Groups.{items_of}
use Rattle.placed.specs.Spelling.{spell}
use Rattle.frames.proofs.plates.Plates.spell_each.Given as goal

abbrev pub invariant-loop-place : goal.invariant-loop-place
invariant-loop-place l = items_of l.group ≡ spell (take l.place l.plate-items) l.placed
