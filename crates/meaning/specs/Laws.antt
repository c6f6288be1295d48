-- What is so of forbidden groups, tables and cut lists, whatever the frame and its crew. Assumes nothing.
use Rattle.std.specs.Prelude.{◌≡◌, ℕ, Bool, true, false, not, ◌&&◌, ◌||◌, ◌↔◌, List, [], ◌∷◌, ◌++◌, Some, None, Decides, Option, ◌≢◌}
use mathlib.Core.List.{Sublistᴰ}
use Rattle.std.specs.List.{ContainsAt as Has, AllByRecursion}
use Rattle.groups.specs.declared.items.Item.{Item}
use Rattle.groups.specs.declared.items.Sign.{Sign}
use Rattle.groups.specs.declared.items.Sign.TheVariants.{Plus, Minus, Star}
use Rattle.groups.specs.Items.{rising, sign_at, names, insert, sits, Combination}
use Rattle.meaning.specs.States.{Setting, shows, shows_any}
use Rattle.meaning.specs.Frames.{Frame, Sound, group_over, manageable, permits, possible, Forbidden}
use Rattle.meaning.specs.Tables.{IsTable, before, covered_by}
use Rattle.meaning.specs.CutLists.{IsCutList}

-- ## The method

-- groups over the fitted plates that the method leaves nothing to add to: one of them covers each manageable line, and
-- one covers each manageable combination of two of them
pub record Closed (f : Frame) (u : List (List Item)) : Type 0 where
  pub over : AllByRecursion (λ g. group_over f.plates g ≡ true) u
  pub lines : (l : List Item) → Has f.lines l → manageable f l ≡ true → covered_by u l ≡ true
  pub combinations : (x : ℕ) (a b c : List Item) → Has u a → Has u b → Combination x a b c → manageable f c ≡ true → covered_by u c ≡ true

-- the method is complete: such groups cover every forbidden group
abbrev pub MethodIsComplete : Type 0
MethodIsComplete = (f : Frame) → Sound f → (u : List (List Item)) → Closed f u → (g : List Item) → Forbidden f g → covered_by u g ≡ true

-- what combining gives follows from its two groups: a setting that shows it shows one of the two
abbrev pub CombinationFollows : Type 0
CombinationFollows = (x : ℕ) (a b c : List Item) → rising 0 a ≡ true → rising 0 b ≡ true → Combination x a b c → (s : Setting) → shows s c ≡ true → (shows s a || shows s b) ≡ true

-- so a manageable combination of two forbidden groups is forbidden
abbrev pub CombinationIsForbidden : Type 0
CombinationIsForbidden = (f : Frame) → Sound f → (x : ℕ) (a b c : List Item) → Forbidden f a → Forbidden f b → Combination x a b c → manageable f c ≡ true → Forbidden f c

-- ## Forbidden groups

-- each setting that shows the group, whether or not the crew admits it, shows one of the lines
abbrev pub Excluded : List (List Item) → List Item → Type 0
Excluded lines g = (s : Setting) → shows s g ≡ true → shows_any s lines ≡ true

-- a manageable group is forbidden just when each setting that shows it shows a line
abbrev pub ForbiddenIsExcluded : Type 0
ForbiddenIsExcluded = (f : Frame) → Sound f → (g : List Item) → group_over f.plates g ≡ true → manageable f g ≡ true → Forbidden f g ↔ Excluded f.lines g

-- ## The table

-- of any two groups just one comes before the other, unless they are the same
pub record OrderIsStrict : Type 0 where
  pub total : (g h : List Item) → before g h ≡ false → before h g ≡ false → g ≡ h
  pub one_way : (g h : List Item) → before g h ≡ true → before h g ≢ true
  pub onwards : (g h k : List Item) → before g h ≡ true → before h k ≡ true → before g k ≡ true

-- each frame has a table
abbrev pub SomeTable : Type 0
SomeTable = (f : Frame) → Sound f → (t : List (List Item)) × IsTable f t

-- and only one
abbrev pub OneTable : Type 0
OneTable = (f : Frame) (t u : List (List Item)) → IsTable f t → IsTable f u → t ≡ u

-- a group of the table covers each forbidden group
abbrev pub TableCovers : Type 0
TableCovers = (f : Frame) → Sound f → (t : List (List Item)) → IsTable f t → (g : List Item) → Forbidden f g → covered_by t g ≡ true

-- the table of no lines is empty
abbrev pub NoLinesNoTable : Type 0
NoLinesNoTable = (f : Frame) → Sound f → f.lines ≡ [] → IsTable f []

-- no setting is possible just when the table is the group of no items alone
abbrev pub NothingPossible : Type 0
NothingPossible = (f : Frame) → Sound f → ((s : Setting) → possible f s ≡ false) ↔ IsTable f ([] ∷ [])

-- a frame with the same crew and lines, and other plates
abbrev pub with_plates : Frame → List ℕ → Frame
with_plates f ps = record { crew = f.crew; plates = ps; lines = f.lines }

-- a lever that no line names changes no table, fitted or retired: over all plates that the lines can stand over the
-- table is the same
abbrev pub OtherLevers : Type 0
OtherLevers = (f : Frame) (ps : List ℕ) → Sound f → Sound (with_plates f ps) → (t : List (List Item)) → IsTable f t → IsTable (with_plates f ps) t

-- ## One more line

-- a frame with one more line, entered last
abbrev pub with_line : Frame → List Item → Frame
with_line f l = record { crew = f.crew; plates = f.plates; lines = f.lines ++ (l ∷ []) }

-- the sign that holds where another does not; where * does not hold, either may
abbrev pub opposite : Sign → Option Sign
opposite Plus = Some Minus
opposite Minus = Some Plus
opposite Star = None

-- the table covers the group with a further sign, if there is one, on a plate
abbrev pub covered_with : List (List Item) → List Item → ℕ → Option Sign → Bool
covered_with t g p None = false
covered_with t g p (Some s) = covered_by t (insert (record { plate = p; sign = s }) g)

-- no setting that shows the group gets by on an item of the new line: the group has the item, with its sign or *, or it
-- does not name the plate and the table covers it with the opposite item
abbrev pub settled : List (List Item) → List Item → Item → Bool
settled t g i = sits i.sign (sign_at g i.plate) || (not (names g i.plate) && covered_with t g i.plate (opposite i.sign))

-- no setting that shows the group gets by on any of the items
abbrev pub all_settled : List (List Item) → List Item → List Item → Bool
all_settled t g [] = true
all_settled t g (i ∷ l) = settled t g i && all_settled t g l

-- what the table of the lines so far tells of a group under one more line: the group is covered, or no setting gets by
abbrev pub read_off : List (List Item) → List Item → List Item → Bool
read_off t l g = covered_by t g || all_settled t g l

-- whether one more line makes a manageable group forbidden can be read off the table of the lines so far
abbrev pub OneMoreLine : Type 0
OneMoreLine = (f : Frame) → Sound f → (t : List (List Item)) → IsTable f t → (l g : List Item) → group_over f.plates l ≡ true → group_over f.plates g ≡ true → manageable f g ≡ true → Decides (read_off t l g) (Forbidden (with_line f l) g)

-- ## The cut list

-- a setting that some lines permit, and that is not possible
pub record Further (f : Frame) (lines : List (List Item)) : Type 0 where
  pub setting : Setting
  pub permitted : permits f lines setting ≡ true
  pub impossible : possible f setting ≡ false

-- what holds of a cut list: it takes lines in force only, in their order; it permits exactly the possible settings; and
-- with any one of its lines left out it permits a further setting
pub record RightCutList (f : Frame) (cut : List (List Item)) : Type 0 where
  pub taken : Sublistᴰ cut f.lines
  pub same : (s : Setting) → permits f cut s ≡ possible f s
  pub needed : (front : List (List Item)) (line : List Item) (back : List (List Item)) → cut ≡ front ++ (line ∷ back) → Further f (front ++ back)

-- each cut list is right
abbrev pub CutListIsRight : Type 0
CutListIsRight = (f : Frame) (cut : List (List Item)) → IsCutList f cut → RightCutList f cut

-- a line that the crew can't manage is on no cut list
abbrev pub CutListIsManageable : Type 0
CutListIsManageable = (f : Frame) → Sound f → (cut : List (List Item)) → IsCutList f cut → AllByRecursion (λ l. manageable f l ≡ true) cut

-- each frame has a cut list
abbrev pub SomeCutList : Type 0
SomeCutList = (f : Frame) → Sound f → (cut : List (List Item)) × IsCutList f cut

-- and only one
abbrev pub OneCutList : Type 0
OneCutList = (f : Frame) (c d : List (List Item)) → IsCutList f c → IsCutList f d → c ≡ d
