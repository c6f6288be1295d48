-- One more group, taken to its place by the table's order. Assumes nothing.
use Rattle.std.specs.Prelude.{◌≡◌, ℕ, ◌+◌, true, List, length, ◌≢◌}
use Rattle.std.specs.List.{ContainsAt as Has}
use Rattle.fixed.specs.Rows.{behind_less}
use Rattle.groups.specs.Rises.{climbing}
use Rattle.meaning.specs.Tables.{put_in_order}
use Rattle.placed.specs.declared.Placed.{Placed}
use Rattle.placed.specs.Order.{order}
use Rattle.placed.specs.Signs.{Within}
use Rattle.placed.specs.Spelling.{spell}
use Rattle.rows.specs.Rows.{spell_all, AllWithin}

-- what is left where a group is put behind those at the front that are less
pub record PutInOrder (g : Placed) (old new : List Placed) : Type 0 where
  -- over any frame that has the levers, and where the group is none of those there, it has its place by the table's order
  pub over : (ps : List ℕ) → climbing 0 ps ≡ true → AllWithin (length ps) old → Within (length ps) g → ((h : Placed) → Has old h → h ≢ g) → spell_all ps new ≡ put_in_order (spell ps g) (spell_all ps old)
  -- no lever from place n on is named, where none was
  pub within : (n : ℕ) → AllWithin n old → Within n g → AllWithin n new
  -- there is one more
  pub count : length new ≡ length old + 1

-- the order on groups by places puts each group so
abbrev pub PutsInOrder : Type 0
PutsInOrder = (g : Placed) (old : List Placed) → PutInOrder g old (behind_less order g old)
