-- What the table tells of groups by their places, over any frame. Assumes nothing.
use Rattle.std.specs.Prelude.{◌≡◌, ℕ, ◌<◌, ◌≤◌, Bool, true, List, length, Some, None, Option, slice_index}
use Rattle.groups.specs.declared.items.Item.{Item}
use Rattle.groups.specs.declared.items.Sign.{Sign}
use Rattle.groups.specs.Rises.{climbing}
use Rattle.meaning.specs.Tables.{covered_by}
use Rattle.meaning.specs.Laws.{settled, all_settled, read_off}
use Rattle.placed.specs.declared.Placed.{Placed}
use Rattle.placed.specs.Signs.{sign_on}
use Rattle.placed.specs.Spelling.{spell}
use Rattle.rows.specs.Rows.{spell_all, AllWithin}

-- the plates of a frame that has the levers of these groups: at most 32, rising
pub record Holds (ps : List ℕ) (table : List Placed) : Type 0 where
  pub climbs : climbing 0 ps ≡ true
  pub few : length ps ≤ 32
  pub within : AllWithin (length ps) table

-- r tells, over any frame that has the levers, whether one of the groups covers the group
abbrev pub CoveredOver : List Placed → Placed → Bool → Type 0
CoveredOver table g r = (ps : List ℕ) → Holds ps table → r ≡ covered_by (spell_all ps table) (spell ps g)

-- no setting that shows the group gets by on the sign, if there is one, of a new line on the plate
abbrev pub settled_if : List (List Item) → List Item → ℕ → Option Sign → Bool
settled_if t g p None = true
settled_if t g p (Some s) = settled t g (record { plate = p; sign = s })

-- r tells that of the sign of the line at a place
abbrev pub SettledOver : List Placed → Placed → Placed → ℕ → Bool → Type 0
SettledOver table line g place r = (ps : List ℕ) → Holds ps table → place < length ps → r ≡ settled_if (spell_all ps table) (spell ps g) (slice_index ps place) (sign_on line place)

-- r tells that of all signs of the line
abbrev pub AllSettledOver : List Placed → Placed → ℕ → Placed → Bool → Type 0
AllSettledOver table line places g r = (ps : List ℕ) → Holds ps table → length ps ≡ places → r ≡ all_settled (spell_all ps table) (spell ps g) (spell ps line)

-- r is what the table tells of the group under one more line
abbrev pub ReadOver : List Placed → Placed → ℕ → Placed → Bool → Type 0
ReadOver table line places g r = (ps : List ℕ) → Holds ps table → length ps ≡ places → r ≡ read_off (spell_all ps table) (spell ps line) (spell ps g)
