-- The search for a setting that shows a group and none of some lines. Assumes nothing.
use Rattle.std.specs.Prelude.{◌≡◌, ℕ, zero, suc, ◌<◌, Bool, true, false, cond, ◌&&◌, ◌||◌, nat_lt, List, length, All, Contains, is_some, Some, None, Option, Result, Ok, Err}
use Rattle.std.specs.Ordering.{nat_cmp, on, ord_min}
use Rattle.groups.specs.declared.items.Item.{Item}
use Rattle.groups.specs.declared.items.Sign.{Sign}
use Rattle.groups.specs.Rises.{climbing}
use Rattle.levers.specs.declared.Levers.{Levers}
use Rattle.levers.specs.Sets.{has}
use Rattle.meaning.specs.Frames.{starred}
use Rattle.meaning.specs.States.{Setting, shows, shows_any}
use Rattle.meaning.specs.Laws.{Excluded}
use Rattle.placed.specs.declared.Placed.{Placed}
use Rattle.placed.specs.Lacking.{lacks}
use Rattle.placed.specs.Signs.{sign_on}
use Rattle.placed.specs.Spelling.{spell}
use Rattle.rows.specs.Rows.{spell_all}
use Rattle.cutting.specs.declared.search.Choice.{Choice}
use Rattle.cutting.specs.declared.search.Shown.{Shown}

-- a setting that shows the group and none of the lines
pub record Escape (lines : List (List Item)) (g : List Item) : Type 0 where
  pub setting : Setting
  pub shown : shows setting g ≡ true
  pub clear : shows_any setting lines ≡ false

-- r tells whether there is such a setting: where there is none, each setting that shows the group shows a line
pub record Searched (lines : List (List Item)) (g : List Item) (r : Bool) : Type 0 where
  pub yes : r ≡ true → Escape lines g
  pub none : r ≡ false → Excluded lines g

-- the levers are those of a frame with these plates: the places from 0 on, one for each
abbrev pub LeversOf : List ℕ → Levers → Type 0
LeversOf ps levers = (k : ℕ) → has levers k ≡ nat_lt k (length ps)

-- r tells it of lines and a group by their places, over any frame that has just the levers
pub record SearchedOver (levers : Levers) (lines : List Placed) (set : Placed) (r : Bool) : Type 0 where
  pub over : (ps : List ℕ) → climbing 0 ps ≡ true → LeversOf ps levers → Searched (spell_all ps lines) (spell ps set) r

-- each setting that shows the group has each of the levers where the line has it
pub record Meets (levers : Levers) (line set : Placed) : Type 0 where
  pub each : (k : ℕ) → has levers k ≡ true → lacks (sign_on set k) (sign_on line k) ≡ false

-- where the levers that the group leaves free rest, a lever is not where the line has it: the group has another sign there,
-- or none and the line has *
abbrev pub fails : Option Sign → Option Sign → Bool
fails u o = lacks u o && (is_some u || starred o)

-- one of the levers is so
pub record Fails (levers : Levers) (line set : Placed) : Type 0 where
  pub one : ((k : ℕ) → has levers k ≡ true → fails (sign_on set k) (sign_on line k) ≡ false) → ⊥

-- one of the levers that the group leaves free
pub record FreeAt (levers : Levers) (set : Placed) (k : ℕ) : Type 0 where
  pub low : has levers k ≡ true
  pub free : sign_on set k ≡ None

-- what is told of one line
abbrev pub Weighed : Levers → Placed → Placed → Result (Option Choice) Shown → Type 0
Weighed levers line set (Err e) = Meets levers line set
Weighed levers line set (Ok None) = Fails levers line set
Weighed levers line set (Ok (Some choice)) = FreeAt levers set choice.lever

-- one of the lines is so met
pub record SomeMet (levers : Levers) (lines : List Placed) (set : Placed) : Type 0 where
  pub line : Placed
  pub member : Contains lines line
  pub meets : Meets levers line set

-- what is told of some lines, line by line
abbrev pub Surveyed : Levers → List Placed → Placed → Result (Option Choice) Shown → Type 0
Surveyed levers lines set (Err e) = SomeMet levers lines set
Surveyed levers lines set (Ok None) = All (λ l. Fails levers l set) lines
Surveyed levers lines set (Ok (Some choice)) = FreeAt levers set choice.lever

-- what is told of some lines: there is no setting to find; there is one; or a lever that the group leaves free
abbrev pub Judged : Levers → List Placed → Placed → Result (Option Choice) Shown → Type 0
Judged levers lines set (Err e) = SearchedOver levers lines set false
Judged levers lines set (Ok None) = SearchedOver levers lines set true
Judged levers lines set (Ok (Some choice)) = FreeAt levers set choice.lever

-- the choice with fewer free levers, of two that there may be
abbrev pub fewer_of : Option Choice → Option Choice → Option Choice
fewer_of best None = best
fewer_of None (Some choice) = Some choice
fewer_of (Some best) (Some choice) = Some (ord_min (on (λ c. c.free) nat_cmp) best choice)

-- how many of the places below n the group leaves free
abbrev pub free_below : Placed → ℕ → ℕ
free_below g zero = 0
free_below g (suc n) = cond (is_some (sign_on g n)) (free_below g n) (suc (free_below g n))

-- how many of all places the group leaves free
unfoldable pub free_places : Placed → ℕ
free_places g = free_below g 32

-- the group with one more lever, with + and with -: fewer levers are left free, what is found with + is found, and
-- where nothing is found with + the search with - decides
pub record Halved (levers : Levers) (set plus minus : Placed) : Type 0 where
  pub plus_fewer : free_places plus < free_places set
  pub minus_fewer : free_places minus < free_places set
  pub found : (lines : List Placed) → SearchedOver levers lines plus true → SearchedOver levers lines set true
  pub other : (lines : List Placed) (r : Bool) → SearchedOver levers lines plus false → SearchedOver levers lines minus r → SearchedOver levers lines set r
