-- What a row holds. Assumes nothing.
use Rattle.std.specs.Prelude.{ℕ, List, map}
use Rattle.std.specs.List.{AllByRecursion}
use Rattle.fixed.specs.declared.row.Row.{Row}
use Rattle.fixed.specs.Rows.{held}
use Rattle.groups.specs.declared.items.Item.{Item}
use Rattle.placed.specs.declared.Placed.{Placed}
use Rattle.placed.specs.Signs.{Within}
use Rattle.placed.specs.Spelling.{spell}

-- the groups of a row, in their order
abbrev pub groups_of : {n : ℕ} → Row Placed n → List Placed
groups_of r = held r

-- what the groups spell over the plates of a frame
abbrev pub spell_all : List ℕ → List Placed → List (List Item)
spell_all ps gs = map (spell ps) gs

-- the groups name no lever from place n on
abbrev pub AllWithin : ℕ → List Placed → Type 0
AllWithin n gs = AllByRecursion (Within n) gs
