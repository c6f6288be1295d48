-- What growing a table by one line answers. Assumes nothing.
use Rattle.std.specs.Prelude.{◌≡◌, ℕ, ◌+◌, ◌<◌, ◌≤◌, false, List, [], ◌∷◌, length, take, None, Ok, Err, Result}
use Rattle.groups.specs.declared.items.Item.{Item}
use Rattle.meaning.specs.States.{Setting}
use Rattle.meaning.specs.Crews.{Admits}
use Rattle.meaning.specs.Frames.{Frame, Sound, possible}
use Rattle.meaning.specs.Tables.{IsTable}
use Rattle.meaning.specs.Laws.{with_line}
use Rattle.placed.specs.declared.Placed.{Placed}
use Rattle.placed.specs.Signs.{sign_on}
use Rattle.placed.specs.Spelling.{spell}
use Rattle.fixed.specs.declared.row.Row.{Row}
use Rattle.rows.specs.Rows.{groups_of, spell_all, AllWithin}
use Rattle.managing.specs.Standing.{frame_of}
use Rattle.growing.specs.declared.Overflow.{Overflow}
use Rattle.growing.specs.declared.Stop.{Stop}
use Rattle.growing.specs.declared.Stop.TheVariants.{NothingPossible, TooMany}
use Rattle.growing.specs.Gathered.{Possible}

-- the frame's table has more than 512 groups
abbrev pub Oversized : Frame → Type 0
Oversized f = (t : List (List Item)) → IsTable f t → 512 < length t

-- why there is no table to hold: no setting is possible; else the table has more than 512 groups
abbrev pub StopsFor : Frame → Stop → Type 0
StopsFor f NothingPossible = (s : Setting) → possible f s ≡ false
StopsFor f TooMany = Possible f × Oversized f

-- a row is the table of a frame in which a setting is possible, or it is said why there is none
abbrev pub TableOr : Frame → Result (Row Placed 512) Stop → Type 0
TableOr f (Ok r) = Possible f × IsTable f (spell_all f.plates (groups_of r))
TableOr f (Err e) = StopsFor f e

-- the answer to one more line, where the table is that of the lines so far, whichever these are
abbrev pub GrowsTo : Admits → List ℕ → List Placed → Placed → Result (Row Placed 512) Stop → Type 0
GrowsTo crew ps table line r = (lines : List (List Item)) → Sound (record { crew = crew; plates = ps; lines = lines }) → IsTable (record { crew = crew; plates = ps; lines = lines }) (spell_all ps table) → TableOr (with_line (record { crew = crew; plates = ps; lines = lines }) (spell ps line)) r

-- the frame's table has at most 512 groups
abbrev pub Fits : Frame → Type 0
Fits f = (t : List (List Item)) → IsTable f t → length t ≤ 512

-- the tables of the first lines, up to the first n, have at most 512 groups each
abbrev pub FitBelow : Admits → List ℕ → List Placed → ℕ → Type 0
FitBelow crew ps lines n = (i : ℕ) → i < n → Fits (frame_of crew ps (take i lines))

-- the table of all lines, or how many of the first lines are the first to have more than 512 groups
abbrev pub FromLines : Admits → List ℕ → List Placed → Result (Row Placed 512) Overflow → Type 0
FromLines crew ps lines (Ok r) = IsTable (frame_of crew ps lines) (spell_all ps (groups_of r)) × FitBelow crew ps lines (length lines + 1)
FromLines crew ps lines (Err e) = (0 < e.lines) × (e.lines ≤ length lines) × Oversized (frame_of crew ps (take e.lines lines)) × FitBelow crew ps lines e.lines

-- a row is the table of the first k lines, and those of fewer lines have at most 512 groups each
pub record TableUpto (crew : Admits) (ps : List ℕ) (lines : List Placed) (k : ℕ) (r : Row Placed 512) : Type 0 where
  pub table : IsTable (frame_of crew ps (take k lines)) (spell_all ps (groups_of r))
  pub fit : FitBelow crew ps lines (k + 1)
  pub within : AllWithin (length ps) (groups_of r)

-- the table of one line more than the first k, or the answer to all lines
abbrev pub NextUpto : Admits → List ℕ → List Placed → ℕ → Result (Row Placed 512) Overflow → Type 0
NextUpto crew ps lines k (Ok r) = TableUpto crew ps lines (k + 1) r
NextUpto crew ps lines k (Err e) = FromLines crew ps lines (Err e)

-- one group, of no items
abbrev pub OnlyEmpty : List Placed → Type 0
OnlyEmpty gs = (g : Placed) × (gs ≡ g ∷ []) × ((k : ℕ) → sign_on g k ≡ None)
