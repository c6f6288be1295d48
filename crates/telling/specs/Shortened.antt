-- A group shortened as far as the table tells it to be forbidden. Assumes nothing.
use Rattle.std.specs.Prelude.{◌≡◌, ℕ, ◌<◌, true, List, length, slice_index}
use Rattle.groups.specs.declared.items.Item.{Item}
use Rattle.groups.specs.Items.{sign_at, covers}
use Rattle.meaning.specs.Frames.{group_over}
use Rattle.meaning.specs.Laws.{read_off}
use Rattle.placed.specs.declared.Placed.{Placed}
use Rattle.placed.specs.declared.End.{End}
use Rattle.placed.specs.Signs.{Within, has_end}
use Rattle.placed.specs.Spelling.{spell}
use Rattle.rows.specs.Rows.{spell_all}
use Rattle.telling.specs.Told.{Holds}

-- an end of the group on a plate can't go: each group that covers it, and that the table tells of, has the end too
abbrev pub FirmAt : List ℕ → List (List Item) → List Item → End → ℕ → List Item → Type 0
FirmAt ps t l e p h = (x : List Item) → group_over ps x ≡ true → covers x h ≡ true → read_off t l x ≡ true → has_end e (sign_at h p) ≡ true → has_end e (sign_at x p) ≡ true

-- no end of the group can go at a place below k
abbrev pub FirmBelow : List ℕ → List (List Item) → List Item → ℕ → List Item → Type 0
FirmBelow ps t l k h = (j : ℕ) → j < k → (e : End) → FirmAt ps t l e (slice_index ps j) h

-- r covers g, and the table tells of it too
pub record Shorter (ps : List ℕ) (t : List (List Item)) (l : List Item) (g r : Placed) : Type 0 where
  pub within : Within (length ps) r
  pub told : read_off t l (spell ps r) ≡ true
  pub covering : covers (spell ps r) (spell ps g) ≡ true

-- over any frame that has the levers, a group that the table tells of is left as P says
abbrev pub WhereTold : List Placed → Placed → ℕ → Placed → (List ℕ → List (List Item) → List Item → Type 0) → Type 0
WhereTold table line places g P = (ps : List ℕ) → Holds ps table → length ps ≡ places → Within (length ps) g → read_off (spell_all ps table) (spell ps line) (spell ps g) ≡ true → P ps (spell_all ps table) (spell ps line)

-- r is shorter, and an end of it at the place can't go
pub record EndTried (e : End) (place : ℕ) (g r : Placed) (ps : List ℕ) (t : List (List Item)) (l : List Item) : Type 0 where
  pub shorter : Shorter ps t l g r
  pub firm : FirmAt ps t l e (slice_index ps place) (spell ps r)

-- r is shorter, and no end of it at the place can go
pub record PlaceTried (place : ℕ) (g r : Placed) (ps : List ℕ) (t : List (List Item)) (l : List Item) : Type 0 where
  pub shorter : Shorter ps t l g r
  pub firm : (e : End) → FirmAt ps t l e (slice_index ps place) (spell ps r)

-- r is shorter, and no end of it can go
pub record Shortened (g r : Placed) (ps : List ℕ) (t : List (List Item)) (l : List Item) : Type 0 where
  pub shorter : Shorter ps t l g r
  pub firm : FirmBelow ps t l (length ps) (spell ps r)
