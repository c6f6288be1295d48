-- The groups of a table that no new group covers, and the new groups, in order. Assumes nothing.
use Rattle.std.specs.Prelude.{◌≡◌, ℕ, ◌<◌, ◌≤◌, true, false, not, ◌⊎◌, List, length, take, Ok, Err, filter, Result}
use Rattle.std.specs.List.{ContainsAt as Has, AllByRecursion}
use Rattle.groups.specs.declared.items.Item.{Item}
use Rattle.groups.specs.Rises.{climbing}
use Rattle.meaning.specs.Tables.{in_order, covered_by}
use Rattle.placed.specs.declared.Placed.{Placed}
use Rattle.placed.specs.Spelling.{spell}
use Rattle.fixed.specs.declared.methods.Full.{Full}
use Rattle.fixed.specs.declared.row.Row.{Row}
use Rattle.rows.specs.Rows.{groups_of, spell_all, AllWithin}
use Rattle.telling.specs.Told.{Holds}
use Rattle.growing.specs.Gathered.{Apart}

-- the groups of the table that no new group covers
abbrev pub uncovered_of : List ℕ → List Placed → List Placed → List Placed
uncovered_of ps new table = filter (λ g. not (covered_by (spell_all ps new) (spell ps g))) table

-- the row holds these, over any frame that has the levers
abbrev pub KeepsUncovered : List Placed → List Placed → List Placed → Type 0
KeepsUncovered table new r = (ps : List ℕ) → Holds ps new → r ≡ uncovered_of ps new table

-- a table in order, and new groups that it does not cover, each once, over the plates of a frame
pub record Mergeable (ps : List ℕ) (table new : List Placed) : Type 0 where
  pub climbs : climbing 0 ps ≡ true
  pub few : length ps ≤ 32
  pub old_within : AllWithin (length ps) table
  pub new_within : AllWithin (length ps) new
  pub order : in_order (spell_all ps table) ≡ true
  pub apart : Apart ps new
  pub fresh : AllByRecursion (λ n. covered_by (spell_all ps table) (spell ps n) ≡ false) new

-- the first k new groups are put among those of the table that no new group covers
pub record MergedUpto (k : ℕ) (ps : List ℕ) (table new r : List Placed) : Type 0 where
  pub within : AllWithin (length ps) r
  pub order : in_order (spell_all ps r) ≡ true
  pub from : (c : List Item) → Has (spell_all ps r) c → (Has (spell_all ps table) c × (covered_by (spell_all ps new) c ≡ false)) ⊎ Has (spell_all ps (take k new)) c
  pub old : (c : List Item) → Has (spell_all ps table) c → covered_by (spell_all ps new) c ≡ false → Has (spell_all ps r) c
  pub added : (c : List Item) → Has (spell_all ps (take k new)) c → Has (spell_all ps r) c

-- 512 places are taken before all new groups are put in
pub record MergeFull (ps : List ℕ) (table new : List Placed) : Type 0 where
  pub part : List Placed
  pub upto : ℕ
  pub more : upto < length new
  pub merged : MergedUpto upto ps table new part
  pub full : length part ≡ 512

-- what merging answers
abbrev pub MergesTo : List Placed → List Placed → Result (Row Placed 512) Full → Type 0
MergesTo table new (Ok r) = (ps : List ℕ) → Mergeable ps table new → MergedUpto (length new) ps table new (groups_of r)
MergesTo table new (Err e) = (ps : List ℕ) → Mergeable ps table new → MergeFull ps table new
