-- What a group shows by the table of a frame, by places. Assumes nothing.
use Rattle.std.specs.Prelude.{◌≡◌, ℕ, ◌<◌, true, false, cond, ◌&&◌, List, length, get_or, is_some, Some, None, Option, MatchOption, ◌==◌, nat_lt, slice_index_or}
use Rattle.groups.specs.declared.items.Item.{Item}
use Rattle.groups.specs.declared.items.Sign.{Sign}
use Rattle.groups.specs.declared.items.Sign.TheVariants.{Plus, Minus}
use Rattle.groups.specs.Items.{covers}
use Rattle.meaning.specs.States.{Setting}
use Rattle.meaning.specs.Crews.{Admits}
use Rattle.meaning.specs.Frames.{Frame, Sound, stars, Forbidden}
use Rattle.meaning.specs.Tables.{IsTable, covered_by}
use Rattle.meaning.specs.Shown.{written, FirstSetting}
use Rattle.placed.specs.declared.Placed.{Placed}
use Rattle.placed.specs.Signs.{Within, sign_on}
use Rattle.placed.specs.Spelling.{spell}
use Rattle.rows.specs.Rows.{spell_all}
use Rattle.telling.specs.Told.{Holds}
use Rattle.showing.specs.declared.Shown.{Shown}
use Rattle.showing.specs.declared.Shown.TheVariants.{Never, Thus}

-- h is the first group of the table that covers g: it stands at a place, covers g, and none at an earlier place does
pub record FirstCover (ps : List ℕ) (table : List Placed) (g h : Placed) : Type 0 where
  pub at : ℕ
  pub inside : at < length table
  pub stands : get_or table at h ≡ h
  pub covering : covers (spell ps h) (spell ps g) ≡ true
  pub earlier : (j : ℕ) → j < at → covers (spell ps (slice_index_or table j h)) (spell ps g) ≡ false

-- s spells the first setting for g
abbrev pub FirstWritten : Frame → Placed → Placed → Type 0
FirstWritten f g s = (x : Setting) × FirstSetting f (spell f.plates g) x × (spell f.plates s ≡ written f.plates x)

-- what g shows: g is forbidden and h is the first of the table that covers it, or s spells the first setting for g
abbrev pub ShownRight : Frame → List Placed → Placed → Shown → Type 0
ShownRight f table g (Never h) = Forbidden f (spell f.plates g) × FirstCover f.plates table g h
ShownRight f table g (Thus s) = FirstWritten f g s

-- over any frame with these places of which the groups spell the table, P holds if the group is manageable
abbrev pub WhereManageable : List Placed → ℕ → Placed → (Frame → Type 0) → Type 0
WhereManageable table places g P = (crew : Admits) (ps : List ℕ) (lines : List (List Item)) → Holds ps table → length ps ≡ places → Within (length ps) g → Sound (record { crew = crew; plates = ps; lines = lines }) → IsTable (record { crew = crew; plates = ps; lines = lines }) (spell_all ps table) → crew (stars (spell ps g)) ≡ true → P (record { crew = crew; plates = ps; lines = lines })

-- r is what g shows
abbrev pub ShownOver : List Placed → ℕ → Placed → Shown → Type 0
ShownOver table places g r = WhereManageable table places g (λ f. ShownRight f table g r)

-- r is the first group of the table that covers g, and nothing where none does
abbrev pub FoundOver : List Placed → Placed → Option Placed → Type 0
FoundOver table g r = (ps : List ℕ) → Holds ps table → MatchOption r (covered_by (spell_all ps table) (spell ps g) ≡ false) (FirstCover ps table g)

-- r spells the first setting for g, if the table does not cover g
abbrev pub CompletedOver : List Placed → ℕ → Placed → Placed → Type 0
CompletedOver table places g r = WhereManageable table places g (λ f. covered_by (spell_all f.plates table) (spell f.plates g) ≡ false → FirstWritten f g r)

-- r is g with a sign given to the lever at a place
abbrev pub Gives : ℕ → Sign → Placed → Placed → Type 0
Gives place s g r = (k : ℕ) → sign_on r k ≡ cond (k == place && nat_lt place 32) (Some s) (sign_on g k)

-- the lever at a place is named already, or is set normal and that is not covered, or is set reversed as normal is covered
pub data SetAt (t : List (List Item)) (ps : List ℕ) (place : ℕ) (g r : Placed) : Type 0 where
  already : is_some (sign_on g place) ≡ true → r ≡ g → SetAt t ps place g r
  plus : sign_on g place ≡ None → Gives place Plus g r → covered_by t (spell ps r) ≡ false → SetAt t ps place g r
  minus : sign_on g place ≡ None → (n : Placed) → Gives place Plus g n → covered_by t (spell ps n) ≡ true → Gives place Minus g r → SetAt t ps place g r

-- r is g with the lever at a place set, over any frame that has the levers
abbrev pub SetOver : List Placed → Placed → ℕ → Placed → Type 0
SetOver table g place r = (ps : List ℕ) → Holds ps table → SetAt (spell_all ps table) ps place g r

-- r is n, unless the table covers n, and then m
abbrev pub FirstOver : List Placed → Placed → Placed → Placed → Type 0
FirstOver table n m r = (ps : List ℕ) → Holds ps table → r ≡ cond (covered_by (spell_all ps table) (spell ps n)) m n
