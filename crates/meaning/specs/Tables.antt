-- The table of a frame: its order, and which list it is. Assumes nothing.
use Rattle.std.specs.Prelude.{◌≡◌, ℕ, Bool, true, false, cond, not, ◌&&◌, ◌||◌, List, [], ◌∷◌, length, ◌==◌, nat_lt}
use Rattle.std.specs.List.{ContainsAt as Has, AllByRecursion}
use Rattle.groups.specs.declared.items.Item.{Item}
use Rattle.groups.specs.declared.items.Sign.{Sign}
use Rattle.groups.specs.declared.items.Sign.TheVariants.{Plus, Minus, Star}
use Rattle.groups.specs.Items.{covers}
use Rattle.meaning.specs.Frames.{Frame, Shortest}

-- + comes before -, and - before *
abbrev pub rank_of : Sign → ℕ
rank_of Plus = 0
rank_of Minus = 1
rank_of Star = 2

-- of two items the lower plate comes first, and at equal plates the sign that comes first
abbrev pub item_before : Item → Item → Bool
item_before i j = nat_lt i.plate j.plate || (i.plate == j.plate && nat_lt (rank_of i.sign) (rank_of j.sign))

-- two groups of equal number compared item by item: the first items that differ decide
abbrev pub earlier : List Item → List Item → Bool
earlier [] h = false
earlier (i ∷ g) [] = false
earlier (i ∷ g) (j ∷ h) = item_before i j || (not (item_before j i) && earlier g h)

-- the table's order: by number of items first, and at equal number item by item
abbrev pub before : List Item → List Item → Bool
before g h = nat_lt (length g) (length h) || (length g == length h && earlier g h)

-- a group comes before each of the others
abbrev pub before_all : List Item → List (List Item) → Bool
before_all g [] = true
before_all g (h ∷ t) = before g h && before_all g t

-- the groups are in order: each comes before all that stand behind it
abbrev pub in_order : List (List Item) → Bool
in_order [] = true
in_order (g ∷ t) = before_all g t && in_order t

-- a group put into its place by the order, unless it is there
unfoldable pub put_in_order : List Item → List (List Item) → List (List Item)
put_in_order g [] = g ∷ []
put_in_order g (h ∷ t) = cond (before g h) (g ∷ h ∷ t) (cond (before h g) (h ∷ put_in_order g t) (h ∷ t))

-- the list is the frame's table: every shortest forbidden group, no other, in order and so each once
pub record IsTable (f : Frame) (t : List (List Item)) : Type 0 where
  pub every : (g : List Item) → Shortest f g → Has t g
  pub only : AllByRecursion (Shortest f) t
  pub order : in_order t ≡ true

-- one of the groups covers the group
abbrev pub covered_by : List (List Item) → List Item → Bool
covered_by [] g = false
covered_by (h ∷ t) g = covers h g || covered_by t g
