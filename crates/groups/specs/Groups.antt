-- What a `Group` holds. Assumes nothing.
use Rattle.std.specs.Prelude.{ℕ, Bool, not, ◌&&◌, List, length, nat_lt}
use Rattle.fixed.specs.Rows.{held}
use Rattle.groups.specs.declared.items.Item.{Item}
use Rattle.groups.specs.declared.group.Group.{Group}
use Rattle.groups.specs.Items.{is_plate, names}

-- the items of a group, in rising plates
abbrev pub items_of : Group → List Item
items_of g = held g.items

-- the items can take one more: its plate is a lever's, is not named yet, and fewer than 32 are there
abbrev pub takes : List Item → ℕ → Bool
takes is p = is_plate p && (not (names is p) && nat_lt (length is) 32)
