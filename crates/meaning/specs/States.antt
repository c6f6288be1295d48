-- Levers, their states, and what a setting shows. Assumes nothing.
use Rattle.std.specs.Prelude.{ℕ, Bool, true, false, ◌&&◌, ◌||◌, List, [], ◌∷◌}
use Rattle.groups.specs.declared.items.Item.{Item}
use Rattle.groups.specs.declared.items.Sign.{Sign}
use Rattle.groups.specs.declared.items.Sign.TheVariants.{Plus, Minus, Star}

-- a lever is normal, reversed, or between: moving from one to the other
pub data State : Type 0 where
  normal reversed between : State

-- when a sign holds: + for normal or between, - for reversed or between, * for between only
abbrev pub holds : Sign → State → Bool
holds Plus normal = true
holds Plus reversed = false
holds Plus between = true
holds Minus normal = false
holds Minus reversed = true
holds Minus between = true
holds Star normal = false
holds Star reversed = false
holds Star between = true

-- a setting gives each lever, by its plate, one state
abbrev pub Setting : Type 0
Setting = ℕ → State

-- a setting shows a group when all signs of the group hold
abbrev pub shows : Setting → List Item → Bool
shows s [] = true
shows s (i ∷ g) = holds i.sign (s i.plate) && shows s g

-- a setting shows one of the groups
abbrev pub shows_any : Setting → List (List Item) → Bool
shows_any s [] = false
shows_any s (g ∷ gs) = shows s g || shows_any s gs
