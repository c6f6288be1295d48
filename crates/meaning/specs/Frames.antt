-- A frame with its crew and its lines: which settings are possible, and which groups are forbidden. Assumes nothing.
use Rattle.std.specs.Prelude.{◌≡◌, ℕ, Bool, true, false, not, ◌&&◌, ◌||◌, List, [], ◌∷◌, map, Some, None, filter, Option, ◌==◌}
use Rattle.std.specs.List.{AllByRecursion}
use Rattle.groups.specs.declared.items.Item.{Item}
use Rattle.groups.specs.declared.items.Sign.{Sign}
use Rattle.groups.specs.declared.items.Sign.TheVariants.{Plus, Minus, Star}
use Rattle.groups.specs.Items.{rising, covers}
use Rattle.groups.specs.Rises.{climbing}
use Rattle.meaning.specs.States.{Setting, holds, shows, shows_any}
use Rattle.meaning.specs.Crews.{Admits, Lawful}

-- a frame: its crew, its fitted plates in rising order, and the lines in force in order of entry
pub record Frame : Type 0 where
  pub crew : Admits
  pub plates : List ℕ
  pub lines : List (List Item)

-- the plate is one of these
abbrev pub is_one_of : List ℕ → ℕ → Bool
is_one_of [] p = false
is_one_of (q ∷ ps) p = q == p || is_one_of ps p

-- each plate of the items is one of these
abbrev pub fitted_in : List ℕ → List Item → Bool
fitted_in ps [] = true
fitted_in ps (i ∷ g) = is_one_of ps i.plate && fitted_in ps g

-- the items are a group over these plates: they rise, and each plate is one of these
abbrev pub group_over : List ℕ → List Item → Bool
group_over ps g = rising 0 g && fitted_in ps g

-- a frame as calls leave it: a crew that keeps the laws, rising plates, and lines over these plates
pub record Sound (f : Frame) : Type 0 where
  pub crew : Lawful f.crew
  pub plates : climbing 0 f.plates ≡ true
  pub lines : AllByRecursion (λ l. group_over f.plates l ≡ true) f.lines

-- the plates of the fitted levers that a setting has between
abbrev pub moving : Frame → Setting → List ℕ
moving f s = filter (λ p. holds Star (s p)) f.plates

-- some lines permit a setting: the crew admits its between levers, and it shows none of the lines
abbrev pub permits : Frame → List (List Item) → Setting → Bool
permits f lines s = f.crew (moving f s) && not (shows_any s lines)

-- a setting is possible: the lines in force permit it
abbrev pub possible : Frame → Setting → Bool
possible f s = permits f f.lines s

-- the sign is *
abbrev pub is_star : Sign → Bool
is_star Plus = false
is_star Minus = false
is_star Star = true

-- the sign, if there is one, is *
abbrev pub starred : Option Sign → Bool
starred None = false
starred (Some s) = is_star s

-- the plates that a group has with *
abbrev pub stars : List Item → List ℕ
stars g = map (λ i. i.plate) (filter (λ i. is_star i.sign) g)

-- a group is manageable: the crew admits its plates with *
abbrev pub manageable : Frame → List Item → Bool
manageable f g = f.crew (stars g)

-- a group is forbidden: its plates are fitted, it is manageable, and no possible setting shows it
pub record Forbidden (f : Frame) (g : List Item) : Type 0 where
  pub fitted : group_over f.plates g ≡ true
  pub managed : manageable f g ≡ true
  pub never : (s : Setting) → possible f s ≡ true → shows s g ≡ false

-- a group is shortest: it is forbidden, and no other forbidden group covers it
pub record Shortest (f : Frame) (g : List Item) : Type 0 where
  pub forbidden : Forbidden f g
  pub alone : (h : List Item) → Forbidden f h → covers h g ≡ true → h ≡ g
