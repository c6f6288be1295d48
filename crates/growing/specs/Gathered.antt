-- The groups that one more line adds to a table, as they are gathered. Assumes nothing.
use Rattle.std.specs.Prelude.{◌≡◌, ℕ, ◌<◌, Bool, true, false, not, ◌||◌, ◌⊎◌, List, [], ◌∷◌, ◌++◌, length, slice_index, slice_index_or, is_ok, Result}
use Rattle.std.specs.List.{AllByRecursion}
use Rattle.groups.specs.declared.items.Item.{Item}
use Rattle.groups.specs.Items.{covers, Combination}
use Rattle.meaning.specs.Crews.{Admits}
use Rattle.meaning.specs.States.{Setting}
use Rattle.meaning.specs.Frames.{Frame, possible, stars}
use Rattle.meaning.specs.Tables.{covered_by}
use Rattle.meaning.specs.Laws.{read_off}
use Rattle.placed.specs.declared.Placed.{Placed}
use Rattle.placed.specs.Signs.{Within}
use Rattle.placed.specs.Spelling.{spell}
use Rattle.fixed.specs.declared.methods.Full.{Full}
use Rattle.fixed.specs.declared.row.Row.{Row}
use Rattle.frames.specs.Fitted.{fitted}
use Rattle.rows.specs.Rows.{groups_of, spell_all}
use Rattle.telling.specs.Shortened.{FirmBelow, Shortened}
use Rattle.growing.specs.declared.growth.Growth.{Growth}

-- what is asked: the crew, the plates, the table of the lines so far, and one more line
pub record Asked : Type 0 where
  pub crew : Admits
  pub plates : List ℕ
  pub table : List Placed
  pub line : Placed

-- what is asked, of a crew by what it means
abbrev pub asked_of : {C : Type 0} → (C → Admits) → Growth C → Asked
asked_of means g = record { crew = means g.frame.crew.now; plates = fitted g.frame.plates.now; table = groups_of g.table.now; line = g.line }

-- the table tells of a group by its items
abbrev pub told_of : Asked → List Item → Bool
told_of a c = read_off (spell_all a.plates a.table) (spell a.plates a.line) c

-- s is what is left of the group g without each end that can go
abbrev pub ShortenedFor : Asked → Placed → Placed → Type 0
ShortenedFor a g s = Shortened g s a.plates (spell_all a.plates a.table) (spell a.plates a.line)

-- what is known of each new group: the crew can manage it, it is forbidden with the line, no end of it can go, and the
-- table does not cover it
pub record Fresh (a : Asked) (n : Placed) : Type 0 where
  pub within : Within (length a.plates) n
  pub managed : a.crew (stars (spell a.plates n)) ≡ true
  pub told : told_of a (spell a.plates n) ≡ true
  pub firm : FirmBelow a.plates (spell_all a.plates a.table) (spell a.plates a.line) (length a.plates) (spell a.plates n)
  pub uncovered : covered_by (spell_all a.plates a.table) (spell a.plates n) ≡ false

-- no group is covered by one that stands before it
abbrev pub Apart : List ℕ → List Placed → Type 0
Apart ps [] = Unit {0}
Apart ps (g ∷ gs) = AllByRecursion (λ h. covers (spell ps g) (spell ps h) ≡ false) gs × Apart ps gs

-- new groups, each once
pub record Gathered (a : Asked) (new : List Placed) : Type 0 where
  pub fresh : AllByRecursion (Fresh a) new
  pub apart : Apart a.plates new

-- a group that the crew can manage and the table tells of is covered by the table or a new group
abbrev pub Met : Asked → List Placed → List Item → Type 0
Met a new c = a.crew (stars c) ≡ true → told_of a c ≡ true → (covered_by (spell_all a.plates a.table) c || covered_by (spell_all a.plates new) c) ≡ true

-- the combination of two groups on x, whichever of them has +
abbrev pub Joined : ℕ → List Item → List Item → List Item → Type 0
Joined x g h c = Combination x g h c ⊎ Combination x h g c

-- all combinations of two groups are met
abbrev pub Paired : Asked → List Placed → Placed → Placed → Type 0
Paired a new g h = (x : ℕ) (c : List Item) → Joined x (spell a.plates g) (spell a.plates h) c → Met a new c

-- the combination of two groups on the lever at a place, if there is one, is met
abbrev pub PairedAt : Asked → List Placed → Placed → Placed → ℕ → Type 0
PairedAt a new g h j = (c : List Item) → Joined (slice_index a.plates j) (spell a.plates g) (spell a.plates h) c → Met a new c

-- groups were put behind others
pub record Grew (old new : List Placed) : Type 0 where
  pub more : List Placed
  pub is : new ≡ old ++ more

-- all 512 places are taken, and there is one more new group
pub record Overfull (a : Asked) (new : List Placed) : Type 0 where
  pub extra : Placed
  pub gathered : Gathered a (new ++ (extra ∷ []))
  pub full : length new ≡ 512

-- what a step leaves of the new groups: what it is for, or one more than there is room for
pub record Step (a : Asked) (old new : List Placed) (ok : Bool) (Goal : List Placed → Type 0) : Type 0 where
  pub gathered : Gathered a new
  pub grew : Grew old new
  pub done : ok ≡ true → Goal new
  pub full : ok ≡ false → Overfull a new

-- what a call that grows a row of new groups leaves of it
abbrev pub StepsTo : {C : Type 0} → (C → Admits) → Growth C → Row Placed 512 → Row Placed 512 → Result (Unit {0}) Full → (Asked → List Placed → Type 0) → Type 0
StepsTo means g old new r Goal = Step (asked_of means g) (groups_of old) (groups_of new) (is_ok r) (Goal (asked_of means g))

-- a group is met already: it is covered, or the crew can't manage it
abbrev pub met_by : Asked → List Placed → List Item → Bool
met_by a new c = (covered_by (spell_all a.plates a.table) c || covered_by (spell_all a.plates new) c) || not (a.crew (stars c))

-- a new group is combined with each group of the table and with each new group before it
pub record PairedOne (a : Asked) (i : ℕ) (new : List Placed) : Type 0 where
  pub table : (d : Placed) → AllByRecursion (Paired a new (slice_index_or new i d)) a.table
  pub before : (d : Placed) (j : ℕ) → j < i → Paired a new (slice_index_or new i d) (slice_index_or new j d)

-- the first k new groups are combined so
abbrev pub ClosedBelow : Asked → ℕ → List Placed → Type 0
ClosedBelow a k new = (i : ℕ) → i < k → PairedOne a i new

-- nothing is left to combine: the line is met, and so are all combinations of new groups with those of the table and with
-- each other
pub record Complete (a : Asked) (new : List Placed) : Type 0 where
  pub line : Met a new (spell a.plates a.line)
  pub closed : ClosedBelow a (length new) new

-- some setting is possible
pub record Possible (f : Frame) : Type 0 where
  pub setting : Setting
  pub possible : possible f setting ≡ true
