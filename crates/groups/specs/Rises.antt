-- Plates that rise, and the items of those that have a sign. Assumes nothing.
use Rattle.std.specs.Prelude.{ℕ, Bool, true, ◌&&◌, List, [], ◌∷◌, ◌++◌, Some, None, Option, nat_le, nat_lt}
use Rattle.groups.specs.declared.items.Item.{Item}
use Rattle.groups.specs.declared.items.Sign.{Sign}

-- the plates rise, from above `low` on, and none passes 2,097,151
abbrev pub climbing : ℕ → List ℕ → Bool
climbing low [] = true
climbing low (p ∷ ps) = nat_lt low p && (nat_le p 2097151 && climbing p ps)

-- the item of a plate, if there is a sign for it
abbrev pub item_if : ℕ → Option Sign → List Item
item_if p None = []
item_if p (Some s) = record { plate = p; sign = s } ∷ []

-- the items of those plates that have a sign
abbrev pub items_on : (ℕ → Option Sign) → List ℕ → List Item
items_on sign [] = []
items_on sign (p ∷ ps) = item_if p (sign p) ++ items_on sign ps
